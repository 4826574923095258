-- How the values of a stored scale are put into bytes and taken back. Assumes nothing.
use Rattle.std.specs.Prelude.{◌≡◌, ℕ, ◌<◌, ◌≤◌, List, ◌++◌, length, take, drop, Ok, Err, Result, ◌≢◌}
use Rattle.scale.specs.declared.fault.CodeFault.{CodeFault}
use Rattle.scale.specs.declared.fault.CodeFault.TheVariants.{Short, NoCode}

-- the scale's number, the width of its codes in bytes, and the code of each value
pub record Coding (S : Type 0) : Type 0 where
  pub number : ℕ
  pub width : ℕ
  pub code : S → List ℕ

-- a number of one byte, codes of one width from 1 to 4, and different values with different codes
pub record Sound {S : Type 0} (C : Coding S) : Type 0 where
  pub one_byte : C.number < 256
  pub some_width : 1 ≤ C.width
  pub small_width : C.width ≤ 4
  pub same_width : (x : S) → length (C.code x) ≡ C.width
  pub faithful : (x y : S) → C.code x ≡ C.code y → x ≡ y

-- x was put at the front of a buffer, or the buffer is too short and as it was
abbrev pub Put : {S : Type 0} → Coding S → S → List ℕ → List ℕ → Result (Unit {0}) CodeFault → Type 0
Put C x old new (Ok done) = (C.width ≤ length old) × (new ≡ C.code x ++ drop C.width old)
Put C x old new (Err Short) = (length old < C.width) × (new ≡ old)
Put C x old new (Err NoCode) = ⊥

-- the value whose code stands at the front of some bytes, or no value has that code, or there are too few bytes
abbrev pub Taken : {S : Type 0} → Coding S → List ℕ → Result S CodeFault → Type 0
Taken C bytes (Ok x) = take C.width bytes ≡ C.code x
Taken {S} C bytes (Err NoCode) = (C.width ≤ length bytes) × ((x : S) → take C.width bytes ≢ C.code x)
Taken C bytes (Err Short) = length bytes < C.width

-- taking back a code gives the value that was put
abbrev pub Back : {S : Type 0} → Coding S → List ℕ → Result S CodeFault → Type 0
Back {S} C bytes r = (x : S) (rest : List ℕ) → bytes ≡ C.code x ++ rest → r ≡ Ok x
