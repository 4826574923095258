-- Worked examples: rules with their texts, logs, and what the rules are worth on them. Assumes nothing.
use Rattle.std.specs.Prelude.{◌≡◌, ℕ, ◌<◌, true, false, List, [], ◌∷◌, map, replicate, ℤ, pos, negsuc, Some, None, codes, slice_set}
use Rattle.std.proofs.Common.{lit<}
use Rattle.letter.specs.Bits.{bits_heard}
use Rattle.letter.specs.Heard.{Heard}
use Rattle.letter.specs.Measured.{measured_heard}
use Rattle.rule.specs.declared.leaf.Kind.{Kind}
use Rattle.rule.specs.declared.leaf.Kind.TheVariants.{SomeStrong, SomeWeak, EveryStrong, EveryWeak}
use Rattle.rule.specs.declared.leaf.Test.{Test}
use Rattle.rule.specs.Spelling.{spelled}
use Rattle.rule.specs.Tree.{single, chain, star, Rule, letter, next, until}
use Rattle.scale.specs.declared.margin.Margin.{Margin}
use Rattle.scale.specs.declared.verdict.Verdict.{Verdict}
use Rattle.scale.specs.declared.verdict.Verdict.TheVariants.{Broken, BrokenSoFar, KeptSoFar, Kept}
use Rattle.scale.specs.Margins.{margins}
use Rattle.scale.specs.Verdicts.{verdicts}
use Rattle.semantics.specs.Reports.{verdict, floor, ceiling}

-- `hCC`, a channel's value
abbrev pub h : (c : ℕ) → c < 16 → Test
h c few = record { channel = Some (record { number = c; few = few }); opposite = false }

-- `fCC`, its opposite
abbrev pub f : (c : ℕ) → c < 16 → Test
f c few = record { channel = Some (record { number = c; few = few }); opposite = true }

-- `y`, best
abbrev pub y : Test
y = record { channel = None; opposite = false }

-- `n`, worst
abbrev pub n : Test
n = record { channel = None; opposite = true }

abbrev pub h00 : Test
h00 = h 0 (lit< tt)

abbrev pub h01 : Test
h01 = h 1 (lit< tt)

abbrev pub h02 : Test
h02 = h 2 (lit< tt)

abbrev pub f01 : Test
f01 = f 1 (lit< tt)

-- after some stretch, or after every one, channel 0 is on; a stretch is any number of pairs of letters with
-- channel 0 on, then a letter with channel 0 on and one with channel 1 on
abbrev pub after_pairs : Kind → Rule
after_pairs k = next k (star (chain (single h00) (single h00)) (chain (single h00) (single h01))) (letter h00)

-- channel 1 is off until channel 2 is on
abbrev pub off_until_on : Rule
off_until_on = until SomeWeak (letter f01) (single y) (letter h02)

-- after some stretch of two letters, or after every one of one letter, where no letter meets the last test
abbrev pub some_unmatched : Rule
some_unmatched = next SomeStrong (chain (single y) (single n)) (letter h00)

abbrev pub every_unmatched : Rule
every_unmatched = next EveryStrong (single n) (letter h00)

-- channel 0 is on
abbrev pub on : Rule
on = letter h00

-- a log of bit letters from their words
abbrev pub bit_log : List ℕ → List (Heard Verdict)
bit_log words = map (λ w. bits_heard (record { word = w })) words

-- every front of a list but the empty one, the shortest first
abbrev pub fronts : {A : Type 0} → List A → List (List A)
fronts [] = []
fronts (x ∷ xs) = (x ∷ []) ∷ map (λ front. x ∷ front) (fronts xs)

-- the verdicts after each letter of a log
abbrev pub verdicts_along : Rule → List (Heard Verdict) → List Verdict
verdicts_along r log = map (verdict verdicts r) (fronts log)

-- sixteen times 0
abbrev pub zeros : List ℤ
zeros = replicate 16 (pos 0)

-- a log of one measured letter, from its readings and limits
abbrev pub measured_log : List ℤ → List ℤ → List (Heard Margin)
measured_log readings limits = measured_heard (record { readings = readings; limits = limits }) ∷ []

-- channel 0 has a reading and a limit; all others 0
abbrev pub channel_0 : ℤ → ℤ → List (Heard Margin)
channel_0 reading limit = measured_log (slice_set zeros 0 reading) (slice_set zeros 0 limit)

-- channel 1 reads -11 and channel 2 reads -4; all others and all limits 0
abbrev pub two_below : List (Heard Margin)
two_below = measured_log (slice_set (slice_set zeros 1 (negsuc 10)) 2 (negsuc 3)) zeros

pub record Examples : Type 0 where
  -- after some or every stretch of pairs, strong and weak
  pub some_strong_text : spelled (after_pairs SomeStrong) ≡ codes "E*.h00h00.h00h01h00"
  pub some_strong : verdicts_along (after_pairs SomeStrong) (bit_log (1 ∷ 3 ∷ 1 ∷ 2 ∷ 2 ∷ []))
      ≡ BrokenSoFar ∷ BrokenSoFar ∷ Kept ∷ Kept ∷ Kept ∷ []
  pub every_strong_text : spelled (after_pairs EveryStrong) ≡ codes "A*.h00h00.h00h01h00"
  pub every_strong : verdicts_along (after_pairs EveryStrong) (bit_log (1 ∷ 3 ∷ 1 ∷ 2 ∷ 2 ∷ []))
      ≡ BrokenSoFar ∷ BrokenSoFar ∷ BrokenSoFar ∷ BrokenSoFar ∷ Broken ∷ []
  pub some_weak_text : spelled (after_pairs SomeWeak) ≡ codes "e*.h00h00.h00h01h00"
  pub some_weak : verdicts_along (after_pairs SomeWeak) (bit_log (1 ∷ 3 ∷ 1 ∷ 2 ∷ 2 ∷ []))
      ≡ KeptSoFar ∷ KeptSoFar ∷ Kept ∷ Kept ∷ Kept ∷ []
  pub every_weak_text : spelled (after_pairs EveryWeak) ≡ codes "a*.h00h00.h00h01h00"
  pub every_weak : verdicts_along (after_pairs EveryWeak) (bit_log (1 ∷ 3 ∷ 1 ∷ 2 ∷ 2 ∷ []))
      ≡ KeptSoFar ∷ KeptSoFar ∷ KeptSoFar ∷ KeptSoFar ∷ Broken ∷ []
  -- an until whose goal comes in time, and one whose hold ends before
  pub until_text : spelled off_until_on ≡ codes "Uef01yh02"
  pub until_kept : verdicts_along off_until_on (bit_log (0 ∷ 0 ∷ 6 ∷ [])) ≡ KeptSoFar ∷ KeptSoFar ∷ Kept ∷ []
  pub until_broken : verdicts_along off_until_on (bit_log (0 ∷ 2 ∷ 6 ∷ [])) ≡ KeptSoFar ∷ Broken ∷ Broken ∷ []
  -- a segment that cannot match: some match is broken when the segment shuts, every match is kept
  pub some_unmatched_text : spelled some_unmatched ≡ codes "E.ynh00"
  pub some_unmatched_row : verdicts_along some_unmatched (bit_log (0 ∷ 0 ∷ [])) ≡ BrokenSoFar ∷ Broken ∷ []
  pub every_unmatched_text : spelled every_unmatched ≡ codes "Anh00"
  pub every_unmatched_row : verdicts_along every_unmatched (bit_log (0 ∷ [])) ≡ Kept ∷ []
  -- a reading at its limit is kept by 1, one below it broken by 1
  pub on_text : spelled on ≡ codes "h00"
  pub at_limit : (verdict margins on (channel_0 (pos 90) (pos 90))).number ≡ pos 1
  pub below_limit : (verdict margins on (channel_0 (pos 89) (pos 90))).number ≡ negsuc 0
  -- the until on margins -21 and -7 of channels 1 and 2: verdict 21, floor -7, ceiling 21
  pub margin_1 : (verdict margins (letter h01) two_below).number ≡ negsuc 20
  pub margin_2 : (verdict margins (letter h02) two_below).number ≡ negsuc 6
  pub until_verdict : (verdict margins off_until_on two_below).number ≡ pos 21
  pub until_floor : (floor margins off_until_on two_below).number ≡ negsuc 6
  pub until_ceiling : (ceiling margins off_until_on two_below).number ≡ pos 21
