-- The verdict scale: join is the larger number, meet the smaller, opposite three minus the number. Assumes nothing.
use Rattle.std.specs.Prelude.{◌≡◌, ◌≢◌, ℕ, zero, suc, ◌-◌, Ok, Err, Result, min, max}
use Rattle.scale.specs.declared.fault.CodeFault.{CodeFault}
use Rattle.scale.specs.declared.fault.CodeFault.TheVariants.{Short, NoCode}
use Rattle.scale.specs.declared.verdict.Verdict.{Verdict}
use Rattle.scale.specs.declared.verdict.Verdict.TheVariants.{Broken, BrokenSoFar, KeptSoFar, Kept}
use Rattle.scale.specs.Laws.{Algebra}

-- the number of a verdict
abbrev pub rank : Verdict → ℕ
rank Broken = 0
rank BrokenSoFar = 1
rank KeptSoFar = 2
rank Kept = 3

-- the verdict with a number from 0 to 3; above that, kept
abbrev pub ranked : ℕ → Verdict
ranked zero = Broken
ranked (suc zero) = BrokenSoFar
ranked (suc (suc zero)) = KeptSoFar
ranked (suc (suc (suc n))) = Kept

-- the verdict with a number, or that no verdict has it
abbrev pub IsVerdictNumbered : ℕ → Result Verdict CodeFault → Type 0
IsVerdictNumbered number (Ok v) = rank v ≡ number
IsVerdictNumbered number (Err NoCode) = (v : Verdict) → rank v ≢ number
IsVerdictNumbered number (Err Short) = ⊥

abbrev pub verdicts : Algebra Verdict
verdicts = record {
  worst = Broken;
  best = Kept;
  pending = BrokenSoFar;
  presumed = KeptSoFar;
  join = λ x y. ranked (max (rank x) (rank y));
  meet = λ x y. ranked (min (rank x) (rank y));
  opposite = λ x. ranked (3 - rank x);
}
