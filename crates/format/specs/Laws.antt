-- The laws of cards. Assumes nothing.
use Rattle.std.specs.Prelude.{◌≡◌, ℕ, ◌<◌, ◌≤◌, List, length, drop, Ok, Result}
use Rattle.fault.specs.declared.CardFault.{CardFault}
use Rattle.format.specs.Bytes.{card_of, values_of, LawfulTable, Cardable}
use Rattle.format.specs.Reading.{CardRead}
use Rattle.letter.specs.Heard.{Heard}
use Rattle.rule.specs.Spelling.{spelled}
use Rattle.runs.specs.Calls.{Equal}
use Rattle.runs.specs.Promises.{Each}
use Rattle.runs.specs.Runs.{Built}
use Rattle.runs.specs.States.{State, summary, cells_of_rule, table_size}
use Rattle.scale.specs.Codes.{Coding}
use Rattle.scale.specs.Laws.{Algebra}

-- a summary whose card can be written: the buffer is long enough, and text and count fit their fields
pub record Writable {S : Type 0} (s : State S) : Type 0 where
  pub long : table_size summary s.rule ≤ length s.buffer
  pub small : s.count < 4294967296
  pub text : length (spelled s.rule) ≤ 96
  pub few : cells_of_rule s.rule ≤ 8

pub record CardLaws {S : Type 0} (A : Algebra S) (C : Coding S) : Type 0 where
  -- a card read back is the summary that was written
  pub back : (s old new : State S) (r : Result (Unit {0}) CardFault) → Cardable A s → s.rule ≡ old.rule
      → table_size summary old.rule ≤ length old.buffer
      → CardRead A C old new r (card_of C s) → (r ≡ Ok tt) × Equal A new s
  -- summaries with equal cards are equal
  pub equal_cards : (s t : State S) → Writable s → Writable t → card_of C s ≡ card_of C t → Equal A s t
  -- a card that is accepted is the card of the summary it fills; bytes are numbers below 256
  pub accepted : (old new : State S) (bytes : List ℕ) → Each (λ b. b < 256) bytes
      → length (spelled old.rule) ≤ 96 → cells_of_rule old.rule ≤ 8
      → CardRead A C old new (Ok tt) bytes
      → Cardable A new × (card_of C new ≡ bytes) × (new.rule ≡ old.rule)
      × (drop (table_size summary old.rule) new.buffer ≡ drop (table_size summary old.rule) old.buffer)
  -- no two readers could differ
  pub one_answer : (old new other : State S) (r q : Result (Unit {0}) CardFault) (bytes : List ℕ)
      → CardRead A C old new r bytes → CardRead A C old other q bytes → (r ≡ q) × (new ≡ other)
  -- every built summary in a long enough buffer has a lawful table
  pub built_lawful : (s : State S) (volume : List (Heard S)) → Built A s volume → table_size summary s.rule ≤ length s.buffer
      → LawfulTable A s.rule s.count (values_of s)
