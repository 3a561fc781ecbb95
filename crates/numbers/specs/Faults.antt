-- The numbers that refusals have. Assumes nothing.
use Rattle.std.specs.Prelude.{◌≡◌, ℕ, [], ◌∷◌, get_or}
use Rattle.std.proofs.Common.{refl, sym, ap, ◌∙◌}
use Rattle.numbers.specs.declared.Fault.{Fault}
use Rattle.numbers.specs.declared.Fault.TheVariants.{Short, Padded, Limit, Ends, Name, Twice, Super, Loop, Restriction, Kind, Fields, Chunk, Value, Reference, Range}

abbrev pub number_of : Fault → ℕ
number_of Short = 1
number_of Padded = 2
number_of Limit = 3
number_of Ends = 4
number_of Name = 5
number_of Twice = 6
number_of Super = 7
number_of Loop = 8
number_of Restriction = 9
number_of Kind = 10
number_of Fields = 11
number_of Chunk = 12
number_of Value = 13
number_of Reference = 14
number_of Range = 21

-- a fault is told by its number

fault_of : ℕ → Fault
fault_of n = get_or (Range ∷ Short ∷ Padded ∷ Limit ∷ Ends ∷ Name ∷ Twice ∷ Super ∷ Loop ∷ Restriction ∷ Kind ∷ Fields ∷ Chunk ∷ Value ∷ Reference ∷ []) n Range

told-back : (f : Fault) → fault_of (number_of f) ≡ f
unfolding fault_of
told-back Short = refl
told-back Padded = refl
told-back Limit = refl
told-back Ends = refl
told-back Name = refl
told-back Twice = refl
told-back Super = refl
told-back Loop = refl
told-back Restriction = refl
told-back Kind = refl
told-back Fields = refl
told-back Chunk = refl
told-back Value = refl
told-back Reference = refl
told-back Range = refl

pub one_fault : (f g : Fault) → number_of f ≡ number_of g → f ≡ g
one_fault f g h = sym (told-back f) ∙ ap fault_of h ∙ told-back g
