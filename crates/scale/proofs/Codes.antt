-- Taking back a code gives the value that was put. Assumes nothing.
use Rattle.std.proofs.Common.{◌≡◌, ℕ, List, ◌++◌, length, take, Ok, Err, Result, sym, ap, ◌∙◌, arith, length-append}
use lib.Seq.{take-append_seam}
use Rattle.scale.specs.Codes.{Coding, Sound, Taken, Back}
use Rattle.scale.specs.declared.fault.CodeFault.{CodeFault}
use Rattle.scale.specs.declared.fault.CodeFault.TheVariants.{Short, NoCode}

module _ {S : Type 0} {C : Coding S} (sound : Sound C) where
  -- the code at the front of bytes that begin with it
  front : (bytes : List ℕ) (x : S) (rest : List ℕ) → bytes ≡ C.code x ++ rest → take C.width bytes ≡ C.code x
  front bytes x rest e = rw (e, ← sound.same_width x) (take-append_seam (C.code x) rest)

  pub taken_back : (bytes : List ℕ) (r : Result S CodeFault) → Taken C bytes r → Back C bytes r
  taken_back bytes (Ok y) found x rest e = ap Ok (sound.faithful y x (sym found ∙ front bytes x rest e))
  taken_back bytes (Err Short) short x rest e = absurd (omega (arith, ap length e, length-append (C.code x) rest, sound.same_width x))
  taken_back bytes (Err NoCode) (long, none) x rest e = absurd (none x (front bytes x rest e))

  pub taken_both : (bytes : List ℕ) (r : Result S CodeFault) → Taken C bytes r → record { found : Taken C bytes r; back : Back C bytes r }
  taken_both bytes r found = record { found = found; back = taken_back bytes r found }
