-- What a byte says that may stand where something is wanted. Assumes nothing.
use Rattle.std.specs.Prelude.{◌≡◌, ℕ, List, [], ◌∷◌, Some, None, Ok, Err, Result}
use Rattle.fault.specs.declared.TextCause.{TextCause}
use Rattle.fault.specs.declared.TextCause.TheVariants.{Byte}
use Rattle.rule.specs.Machine.{Want, opens, weight}

-- the byte is the sign of what is found; with none it is not allowed
abbrev pub Known : {X : Type 0} → Want → (X → List ℕ) → ℕ → Result X TextCause → Type 0
Known w sign b (Ok x) = sign x ≡ b ∷ []
Known w sign b (Err e) = (opens w b ≡ None) × (e ≡ Byte)

-- what is found for a want is known by its byte, which leaves these wants and is so many nodes
pub record SignLaws {X : Type 0} (w : Want) (sign : X → List ℕ) (left : X → List Want) (count : ℕ) (gives : ℕ → Result X TextCause → Type 0) : Type 0 where
  pub known : (b : ℕ) (r : Result X TextCause) → gives b r → Known w sign b r
  pub opened : (x : X) (b : ℕ) → sign x ≡ b ∷ [] → opens w b ≡ Some (left x)
  pub weighed : weight w ≡ count
