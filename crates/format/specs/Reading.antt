-- What the calls on cards answer and leave. Assumes nothing.
use Rattle.std.specs.Prelude.{◌≡◌, ℕ, ◌+◌, ◌*◌, ◌<◌, Bool, true, false, cond, not, ◌&&◌, ◌||◌, ◌⊎◌, List, ◌++◌, length, take, drop, Ok, Err, Result, ◌==◌, ◌≢◌, nat_eq, nat_lt, slice_index}
use Rattle.fault.specs.declared.CardCause.TheVariants.{Field, FieldLength, OtherScale, Code, Table, OutputShort}
use Rattle.fault.specs.declared.CardFault.{CardFault}
use Rattle.fault.specs.declared.CardFault.TheVariants as card
use Rattle.fault.specs.declared.WorkCause.TheVariants.{Differs, BufferShort, CountAbove}
use Rattle.fault.specs.declared.WorkFault.TheVariants as work
use Rattle.format.specs.Bytes.{codes_of, card_of, LawfulTable}
use Rattle.rule.specs.Spelling.{spelled}
use Rattle.rule.specs.Tree.{Rule}
use Rattle.runs.specs.Calls.{differs, most_letters}
use Rattle.runs.specs.States.{State, summary, short, table_size}
use Rattle.scale.specs.Codes.{Coding}
use Rattle.scale.specs.Laws.{Algebra}
use Rattle.std.specs.Str.{bytes_eq}

-- what a field holds, and what comes after it
pub record Parts : Type 0 where
  pub content : List ℕ
  pub rest : List ℕ

-- the length that a field's head names
abbrev pub named_length : List ℕ → ℕ
named_length bytes = slice_index bytes 1 * 256 + slice_index bytes 2

-- one field: its head (tag and length) is there, its length fits, its bytes are there; its place is its tag's, there or due
abbrev pub field_read : ℕ → (ℕ → Bool) → ℕ → List ℕ → Result Parts CardFault
field_read tag fits place bytes =
    cond (nat_lt (length bytes) 3 || not (slice_index bytes 0 == tag)) (Err (card.Refused Field place))
    (cond (not (fits (named_length bytes))) (Err (card.Refused FieldLength place))
    (cond (nat_lt (length bytes) (3 + named_length bytes)) (Err (card.Refused Field place))
    (Ok (record { content = take (named_length bytes) (drop 3 bytes); rest = drop (3 + named_length bytes) bytes }))))

-- a rule text has 1 to 96 bytes
abbrev pub text_fits : ℕ → Bool
text_fits n = not (nat_lt n 1) && not (nat_lt 96 n)

-- the first reading call hands out the rule text
abbrev pub content_of : Result Parts CardFault → Result (List ℕ) CardFault
content_of (Ok parts) = Ok parts.content
content_of (Err fault) = Err fault

abbrev pub text_answer : List ℕ → Result (List ℕ) CardFault
text_answer bytes = content_of (field_read 1 text_fits 0 bytes)

-- the number of four bytes, most significant first
abbrev pub four_number : List ℕ → ℕ
four_number bytes = slice_index bytes 0 * 16777216 + slice_index bytes 1 * 65536 + slice_index bytes 2 * 256 + slice_index bytes 3

-- cases of a test and of an answer
abbrev pub If : Bool → Type 0 → Type 0 → Type 0
If true P Q = P
If false P Q = Q

abbrev pub On : {X : Type 0} → Result X CardFault → (X → Type 0) → (CardFault → Type 0) → Type 0
On (Ok x) P Q = P x
On (Err fault) P Q = Q fault

-- the values whose codes the bytes are; or the place of the first that is no code
abbrev pub Codes : {S : Type 0} → Coding S → List ℕ → Result (List S) ℕ → Type 0
Codes C bytes (Ok values) = bytes ≡ codes_of C values
Codes {S} C bytes (Err place) = (values : List S) × (place ≡ length values * C.width) × (place < length bytes) × (take place bytes ≡ codes_of C values)
    × ((x : S) → take C.width (drop place bytes) ≢ C.code x)

-- writing a card: 8, 7, 18; the answer is the card's length
module _ {S : Type 0} (C : Coding S) where
  abbrev pub write_answer : Rule → State S → ℕ → Result ℕ CardFault
  write_answer r s room =
      cond (short summary s) (Err (card.Work (work.Refused BufferShort 0)))
      (cond (differs r s) (Err (card.Work (work.Refused Differs 0)))
      (cond (nat_lt room (length (card_of C s))) (Err (card.Refused OutputShort 0))
      (Ok (length (card_of C s)))))

  abbrev pub written : Result ℕ CardFault → State S → List ℕ → List ℕ
  written (Ok n) s out = card_of C s ++ drop (length (card_of C s)) out
  written (Err fault) s out = out

-- reading a card into a summary: old before the call, new after it, r the answer
module _ {S : Type 0} (A : Algebra S) (C : Coding S) (old new : State S) (r : Result (Unit {0}) CardFault) where
  -- refused, and the summary is as it was
  abbrev pub Refuses : CardFault → Type 0
  Refuses fault = (r ≡ Err fault) × (new ≡ old)

  -- accepted: count and rows are the card's, and the places beyond the table as they were
  abbrev pub Fills : ℕ → List S → Type 0
  Fills count values = (r ≡ Ok tt) × (new ≡ record { rule = old.rule; count = count; buffer = values ++ drop (length values) old.buffer })

  -- the whole table: lawful or not, and then whether a byte is left over
  abbrev pub Tabled : ℕ → ℕ → List ℕ → Result (List S) ℕ → Type 0
  Tabled place count rest (Err bad) = Refuses (card.Refused Code (place + 3 + bad))
  Tabled place count rest (Ok values) =
      ((LawfulTable A old.rule count values → ⊥) × Refuses (card.Refused Table place))
      ⊎ (LawfulTable A old.rule count values
      × If (nat_lt 0 (length rest)) (Refuses (card.Refused Field (place + 3 + length values * C.width))) (Fills count values))

  -- the fields in turn, from a place on
  abbrev pub ReadsRows : ℕ → ℕ → List ℕ → Type 0
  ReadsRows count place bytes =
      On (field_read 4 (nat_eq (table_size summary old.rule * C.width)) place bytes)
      (λ parts. (values : Result (List S) ℕ) × Codes C parts.content values × Tabled place count parts.rest values)
      Refuses

  abbrev pub ReadsCount : ℕ → List ℕ → Type 0
  ReadsCount place bytes =
      On (field_read 3 (nat_eq 4) place bytes)
      (λ parts. If (nat_lt most_letters (four_number parts.content)) (Refuses (card.Work (work.Refused CountAbove place)))
      (ReadsRows (four_number parts.content) (place + 7) parts.rest))
      Refuses

  abbrev pub ReadsScale : ℕ → List ℕ → Type 0
  ReadsScale place bytes =
      On (field_read 2 (nat_eq 1) place bytes)
      (λ parts. If (not (slice_index parts.content 0 == C.number)) (Refuses (card.Refused OtherScale place)) (ReadsCount (place + 4) parts.rest))
      Refuses

  abbrev pub ReadsText : List ℕ → Type 0
  ReadsText bytes =
      On (field_read 1 text_fits 0 bytes)
      (λ parts. If (not (bytes_eq parts.content (spelled old.rule))) (Refuses (card.Work (work.Refused Differs 0)))
      (ReadsScale (3 + length parts.content) parts.rest))
      Refuses

  abbrev pub CardRead : List ℕ → Type 0
  CardRead bytes = If (short summary old) (Refuses (card.Work (work.Refused BufferShort 0))) (ReadsText bytes)
