-- The lines that are printed. Assumes nothing.
use Rattle.std.specs.Prelude.{◌≡◌, ℕ, List, ◌++◌, Some, Ok, Err, string_bytes, codes, decimal, Result, String}
use Rattle.fault.specs.declared.TextFault.{TextFault}
use Rattle.fault.specs.Faults.{number_of}
use Rattle.scale.specs.declared.verdict.Verdict.{Verdict}
use Rattle.scale.specs.Verdicts.{rank}
use Rattle.std.specs.declared.alloc.AllocError.{AllocError}
use Rattle.std.specs.declared.alloc.Global.{Global}

-- four numbers in decimal with single blanks
abbrev pub numbers_text : ℕ → ℕ → ℕ → ℕ → List ℕ
numbers_text count verdict floor ceiling =
    decimal count ++ (codes " " ++ (decimal verdict ++ (codes " " ++ (decimal floor ++ (codes " " ++ (decimal ceiling ++ codes "\n"))))))

-- how many letters, verdict, floor and ceiling
abbrev pub report_text : ℕ → Verdict × Verdict × Verdict → List ℕ
report_text count values = numbers_text count (rank values.0) (rank values.1) (rank values.2)

-- `! ` and the refusal's number
abbrev pub refusal_text : ℕ → List ℕ
refusal_text number = codes "! " ++ (decimal number ++ codes "\n")

abbrev pub Refusal : TextFault → Result (String Global) AllocError → Type 0
Refusal fault (Ok text) = (n : ℕ) × (number_of fault ≡ Some n) × (string_bytes text ≡ refusal_text n)
Refusal fault (Err e) = Unit {0}
