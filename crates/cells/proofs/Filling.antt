-- A list written over another from the front on. Assumes nothing.
use Rattle.std.proofs.Common.{◌≡◌, ℕ, zero, suc, ◌+◌, ◌-◌, ◌<◌, ◌≤◌, List, [], ◌∷◌, ◌++◌, length, get_or, take, drop, set, replicate, refl, ap, add-one, arith, length-append, ◌∙◌, take_all}
use Rattle.std.proofs.lemmas.List.{append-nil, drop_all, take_at, length-drop, length-replicate}

module _ {X : Type 0} where
  filled_next : (xs old : List X) (k : ℕ) (d : X) → k < length xs → k < length old
      → set (take k xs ++ drop k old) k (get_or xs k d) ≡ take (suc k) xs ++ drop (suc k) old
  filled_next [] old k d h l = absurd (omega arith)
  filled_next (x ∷ xs) [] k d h l = absurd (omega arith)
  filled_next (x ∷ xs) (y ∷ old) zero d h l = refl
  filled_next (x ∷ xs) (y ∷ old) (suc k) d h l = ap (λ r. x ∷ r) (filled_next xs old k d (omega arith) (omega arith))

  -- one value more
  pub filled_more : (xs old now : List X) (k : ℕ) (v d : X) → k < length xs → k < length old → now ≡ take k xs ++ drop k old → v ≡ get_or xs k d
      → set now k v ≡ take (k + 1) xs ++ drop (k + 1) old
  filled_more xs old now k v d h l e r = rw (add-one, e, r) (filled_next xs old k d h l)

  -- all of it
  pub filled_whole : (xs old now : List X) (k : ℕ) → length xs ≤ k → length old ≤ k → now ≡ take k xs ++ drop k old → now ≡ xs
  filled_whole xs old now k h l e =
      e ∙ ap (λ r. r ++ drop k old) (take_all k xs h) ∙ ap (λ r. xs ++ r) (drop_all k old l) ∙ append-nil xs

  -- a text written at once stands in front
  pub front_is : (xs rest text : List X) → xs ≡ text → take (length text) (xs ++ rest) ≡ text
  front_is xs rest text e = rw e (take_at text rest _ refl)

  -- and the list is as long as before
  pub front_fills : (n : ℕ) (d : X) (xs text : List X) → xs ≡ text → length text ≤ n → length (xs ++ drop (length text - 0) (replicate n d)) ≡ n
  front_fills n d xs text e l =
      omega (arith, length-append xs (drop (length text - 0) (replicate n d)), ap length e, length-drop (length text - 0) (replicate n d), length-replicate n d)
