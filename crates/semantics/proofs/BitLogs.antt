-- On logs of bit letters kept and broken settle the rule for every endless continuation, and a flipped test is kept just where the test is not. Assumes nothing.
use Rattle.std.proofs.Common.{◌≡◌, ℕ, Bool, true, false, cond, ◌⊎◌, map, sym, refl, ap, ◌∙◌, inl, inr, arith}
use Rattle.letter.specs.Bits.{bit, bits_heard}
use Rattle.letter.specs.declared.bits.Bits.{Bits}
use Rattle.scale.specs.declared.verdict.Verdict.TheVariants.{Broken, Kept}
use Rattle.scale.specs.Verdicts.{rank, verdicts}
use Rattle.scale.proofs.VerdictLaws.{verdict_told, from_part, verdicts_lawful}
use Rattle.semantics.specs.Continuations.{Settling, Settled, BitsSettle, Continues, Plain, value_along, heard_along}
use Rattle.semantics.specs.Sanity.{TwoWay}
use Rattle.semantics.proofs.Sanity.{plain_two_way}
use Rattle.semantics.proofs.Settling.{settles}
use Rattle.std.proofs.lemmas.List.{length-map, get_or-map}

pub verdicts_settle : Settling verdicts
verdicts_settle = record {
  join_best = from_part verdicts.join Kept tt;
  meet_worst = from_part verdicts.meet Broken tt;
  pending_best = λ e. omega (arith, ap rank e);
  pending_worst = λ e. omega (arith, ap rank e);
  presumed_best = λ e. omega (arith, ap rank e);
  presumed_worst = λ e. omega (arith, ap rank e);
  best_told = λ x. verdict_told x Kept;
  worst_told = λ x. verdict_told x Broken;
}

bits_plain : (endless : ℕ → Bits) → Plain verdicts (heard_along endless)
bits_plain endless i c = plain (bit (endless i).word c)
  where
    plain : (b : Bool) → (cond b Kept Broken ≡ Broken) ⊎ (cond b Kept Broken ≡ Kept)
    plain true = inr refl
    plain false = inl refl

-- a flipped test is kept just where the test is not
pub bits_two_way : (endless : ℕ → Bits) → TwoWay verdicts (value_along verdicts (heard_along endless))
bits_two_way endless = plain_two_way verdicts_lawful (heard_along endless) (bits_plain endless)

pub bits_settle : BitsSettle
bits_settle r log endless l begins = record { kept = settled.verdict_best; broken = settled.verdict_worst }
  where
    continues : Continues verdicts (map bits_heard log) (heard_along endless)
    continues i q = ap bits_heard (begins i (endless i) (omega (arith, q, length-map log bits_heard)))
        ∙ sym (get_or-map bits_heard log i (endless i) _ (omega (arith, q, length-map log bits_heard)))

    settled : Settled verdicts r (map bits_heard log) (heard_along endless)
    settled = settles verdicts_lawful verdicts_settle r (map bits_heard log) (heard_along endless) (omega (arith, l, length-map log bits_heard))
        continues
