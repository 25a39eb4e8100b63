-- A float differs from 0.0 exactly where it is a NaN, an infinity or has a significand other than 0.
use Rattle.std.proofs.Common.{◌≡◌, ℕ, zero, suc, ◌*◌, ◌^◌, ◌<◌, Bool, true, false, not, eqb, pos, negsuc, refl, mul-pos, zero-mul, mul-one, arith, pow_pos}
use lib.Ieee.{Float, nan, inf, fin, ne, of_bits, binary32, level}
use Rattle.std.proofs.lemmas.Bool.Decides.{nat_tests}
use Rattle.descriptor.specs.DepthStencil.{nonzero}

-- only the significand decides
plain : (s : Bool) (m : ℕ) → not (level s m false 0) ≡ not (eqb m 0)
plain true zero = refl
plain false zero = refl
plain s (suc m) = grind (arith, nat_tests)

-- and a factor above 0 changes nothing
scaled : (s : Bool) (m k : ℕ) → 0 < k → not (level s (m * k) false 0) ≡ not (eqb m 0)
scaled s zero k h = rw (zero-mul k) (plain s 0)
scaled s (suc m) k h = let p : 0 < suc m * k = mul-pos (omega arith) h in grind (arith, nat_tests)

pub ne_zero : (x : Float) → ne x (of_bits binary32 0) ≡ nonzero x
unfolding ne of_bits
ne_zero nan = refl
ne_zero (inf s) = refl
ne_zero (fin s m (pos k)) = rw (mul-one (m * 2 ^ k)) (scaled s m (2 ^ k) (pow_pos k))
ne_zero (fin s m (negsuc k)) = rw (mul-one (m * 1), mul-one m, zero-mul (2 ^ suc k)) (plain s m)
