-- What was read or refused, where a refusal is let go. Assumes nothing.
use Rattle.std.specs.Prelude.{Result, Ok, Err, Some, None, ◌≡◌, refl}
use Rattle.std.proofs.Common.{sym}
use Rattle.std.specs.Result.{result_ok}

-- what is taken was read
pub taken : {A E : Type 0} {r : Result A E} {x : A} → Some x ≡ result_ok r → r ≡ Ok x
taken {r = Ok y} h = let z : Some y ≡ Some _ = sym h in cc z
taken {r = Err e} h = absurd (cc h)

-- and else it was refused
pub untaken : {A E : Type 0} {r : Result A E} → None ≡ result_ok r → (e : E) × (r ≡ Err e)
untaken {r = Ok y} h = absurd (cc h)
untaken {r = Err e} h = (e, refl)
