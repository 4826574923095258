-- When a count and a report agree with what is expected. Assumes nothing.
use Rattle.std.specs.Prelude.{◌≡◌, ℕ, true, is_some, Some, Option, Result}
use Rattle.std.specs.Result.{result_ok}

-- There is a report, and both the count and the report are the expected ones.
abbrev pub Agrees : {T E : Type 0} → Option T → ℕ → Result ℕ E → Result T E → Type 0
Agrees report letters count answer =
    (is_some report ≡ true) × (result_ok count ≡ Some letters) × (result_ok answer ≡ report)
