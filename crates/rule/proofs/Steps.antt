-- How one byte is read, and how readings follow one another. Assumes nothing.
use Rattle.std.proofs.Common.{◌≡◌, ℕ, ◌+◌, ◌<◌, false, eqb, List, [], ◌∷◌, ◌++◌, length, drop, Some, None, sym, ap, ◌∙◌, append_assoc, arith}
use Rattle.fault.specs.declared.TextCause.TheVariants.{Byte, Early, Nodes}
use Rattle.fault.specs.declared.TextFault.{TextFault}
use Rattle.fault.specs.declared.TextFault.TheVariants.{Refused, NoMemory}
use Rattle.rule.specs.declared.reader.Reader.{Reader}
use Rattle.rule.specs.Machine.{Want, opens, weight, run}
use Rattle.rule.specs.Parts.{Advanced, Passed, Stops}
use Rattle.std.proofs.lemmas.Bool.Decides.{nat_tests}

module _ (before : Reader) (w : Want) where
  pub early : before.rest.now ≡ [] → Stops before (w ∷ []) (Refused Early before.at)
  unfolding run
  early none = λ ws. rw none

  pub bad : (b : ℕ) (rest : List ℕ) → before.rest.now ≡ b ∷ rest → opens w b ≡ None → Stops before (w ∷ []) (Refused Byte before.at)
  unfolding run
  bad b rest here not_allowed = λ ws. rw (here, not_allowed)

  module _ (b : ℕ) (left : List Want) (here : before.rest.now ≡ b ∷ drop 1 before.rest.now) (allowed : opens w b ≡ Some left) where
    pub full : before.nodes + weight w ≡ 49 → Stops before (w ∷ []) (Refused Nodes before.at)
    unfolding run
    full many = λ ws. rw (here, allowed, many)

    pub step : (count : ℕ) (after : Reader) → weight w ≡ count → Advanced before count after → Passed before (w ∷ []) (b ∷ []) count left after
    unfolding run
    step count after weighs on =
        let few : eqb (before.nodes + count) 49 ≡ false = grind (arith, nat_tests, after.few, on.nodes) in
        let shorter : length before.rest.now ≡ length after.rest.now + 1 = omega (arith, ap length here, ap length on.rest) in
        record {
          placed = omega (arith, on.place);
          forward = omega arith;
          bytes = here ∙ ap (λ l. b ∷ l) (sym on.rest);
          counted = on.nodes;
          goes = λ ws. rw (here, allowed, weighs, few, ← on.nodes, ← on.place, ← on.rest);
        }

module _ {before after : Reader} {b count : ℕ} where
  pub shorter : before.rest.now ≡ b ∷ drop 1 before.rest.now → Advanced before count after → length after.rest.now < length before.rest.now
  shorter here on = omega (arith, ap length here, ap length on.rest)

module _ {a b c : Reader} {ws left : List Want} {w : Want} {part more : List ℕ} {m n : ℕ} where
  -- one reading after another
  pub then_next : Passed a ws part m (w ∷ left) b → Passed b (w ∷ []) more n [] c → Passed a ws (part ++ more) (m + n) left c
  then_next p q =
      record {
        placed = omega arith;
        forward = omega arith;
        bytes = p.bytes ∙ ap (λ l. part ++ l) q.bytes ∙ sym (append_assoc part more c.rest.now);
        counted = omega arith;
        goes = λ vs. p.goes vs ∙ q.goes (left ++ vs);
      }

module _ {a b : Reader} {ws : List Want} {part : List ℕ} {m : ℕ} where
  -- what stops after a reading stops the whole
  pub stops_next : {w : Want} {left : List Want} → Passed a ws part m (w ∷ left) b → (e : TextFault) → Stops b (w ∷ []) e → Stops a ws e
  stops_next {w} {left} p (Refused cause place) s = λ vs. p.goes vs ∙ s (left ++ vs)
  stops_next p NoMemory s = tt
