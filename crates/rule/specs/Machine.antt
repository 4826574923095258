-- The reader's steps, for the contracts of its inner functions: what is still wanted, byte by byte. Assumes nothing.
use Rattle.std.specs.Prelude.{ℕ, ◌+◌, cond, ◌&&◌, List, [], ◌∷◌, ◌++◌, Some, None, codes, Option, ◌==◌, nat_le}
use Rattle.fault.specs.declared.TextCause.{TextCause}
use Rattle.fault.specs.declared.TextCause.TheVariants.{Byte, Early, LeftOver, Nodes}
use Rattle.rule.specs.Reading.{among}

-- what must still be read: a rule, a segment, a kind, a channel's first digit, its second digit up to the number
pub data Want : Type 0 where
  rule : Want
  segment : Want
  kind : Want
  tens : Want
  ones : ℕ → Want

-- what a byte that meets a want leaves to be read; none where it is not allowed there
unfoldable pub opens : Want → ℕ → Option (List Want)
opens rule b =
    cond (among b (codes "yn")) (Some [])
    (cond (among b (codes "hf")) (Some (tens ∷ []))
    (cond (among b (codes "!")) (Some (rule ∷ []))
    (cond (among b (codes "&+")) (Some (rule ∷ rule ∷ []))
    (cond (among b (codes "EeAa")) (Some (segment ∷ rule ∷ []))
    (cond (among b (codes "UR")) (Some (kind ∷ rule ∷ segment ∷ rule ∷ [])) None)))))
opens segment b =
    cond (among b (codes "yn")) (Some [])
    (cond (among b (codes "hf")) (Some (tens ∷ []))
    (cond (among b (codes "|.*")) (Some (segment ∷ segment ∷ [])) None))
opens kind b = cond (among b (codes "EeAa")) (Some []) None
opens tens b = cond (b == 48) (Some (ones 9 ∷ [])) (cond (b == 49) (Some (ones 5 ∷ [])) None)
opens (ones m) b = cond (nat_le 48 b && nat_le b (48 + m)) (Some []) None

-- how many nodes the byte that meets a want is
abbrev pub weight : Want → ℕ
weight rule = 1
weight segment = 1
weight kind = 0
weight tens = 0
weight (ones m) = 0

-- the end of a run: all was read, or a refusal at a place
pub data End : Type 0 where
  done : End
  stop : TextCause → ℕ → End

abbrev pub go_on : ℕ → Option (List Want) → (List Want → End) → End
go_on p None rest = stop Byte p
go_on p (Some more) rest = rest more

-- n nodes were read, byte p is next, and these wants are left for these bytes
unfoldable pub run : ℕ → ℕ → List Want → List ℕ → End
run n p [] [] = done
run n p (w ∷ ws) [] = stop Early p
run n p [] (b ∷ bs) = stop LeftOver p
run n p (w ∷ ws) (b ∷ bs) =
    go_on p (opens w b) (λ more. cond (n + weight w == 49) (stop Nodes p) (run (n + weight w) (p + 1) (more ++ ws) bs))

-- the highest second digit of a channel after its first
abbrev pub highest : ℕ → ℕ
highest d = cond (d == 0) 9 5
