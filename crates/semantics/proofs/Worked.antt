-- The worked examples hold, by computation. Assumes nothing.
use Rattle.std.proofs.Common.{refl}
use Rattle.semantics.specs.Examples.{Examples}
use Rattle.semantics.specs.Folds.{joined, met}
use Rattle.semantics.specs.Positions.{paths, matches, open_at, until_from, worth}

pub examples : Examples
unfolding joined met paths matches open_at until_from worth
examples = record {
  some_strong_text = refl;
  some_strong = refl;
  every_strong_text = refl;
  every_strong = refl;
  some_weak_text = refl;
  some_weak = refl;
  every_weak_text = refl;
  every_weak = refl;
  until_text = refl;
  until_kept = refl;
  until_broken = refl;
  some_unmatched_text = refl;
  some_unmatched_row = refl;
  every_unmatched_text = refl;
  every_unmatched_row = refl;
  on_text = refl;
  at_limit = refl;
  below_limit = refl;
  margin_1 = refl;
  margin_2 = refl;
  until_verdict = refl;
  until_floor = refl;
  until_ceiling = refl;
}
