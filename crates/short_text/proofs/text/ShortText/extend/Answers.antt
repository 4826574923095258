use borrow.Rule.Slice.PartMut.{put_mid}
use Rattle.std.proofs.Common.{◌≡◌, ◌≤◌, ◌+◌, ◌-◌, ◌++◌, ◌∙◌, ap, sym, List, length, min, take, ℕ, arith, rules}
use Rattle.std.proofs.lemmas.List.{length-take-le, take_min}
use Rattle.std.proofs.lemmas.Slice.{take-put_mid}
use Rattle.std.proofs.Math.Seq.{take-append-add}
use Rattle.short_text.proofs.text.ShortText.extend.Goals as goal

-- of a text with more bytes behind it the first n: the text, and as many bytes as fit
fitting : (n : ℕ) (text more : List ℕ) → length text ≤ n → take n (text ++ more) ≡ text ++ take (min (n - length text) (length more)) more
fitting n text more few =
    let whole : n ≡ length text + (n - length text) = omega arith in
    ap (λ m. take m (text ++ more)) whole ∙ take-append-add text more (n - length text) ∙ ap (λ xs. text ++ xs) (sym (take_min (n - length text) more))

-- what stands in the place once they were copied behind the text
extended : (n : ℕ) (place more new : List ℕ) (len count k : ℕ) → len ≤ n → length place ≡ n → count ≡ min (length more) (n - len) → new ≡ take count more → take (len + count) (put_mid len k place new) ≡ take n (take len place ++ more)
extended n place more new len count k few long counted copied =
    let kept : length (take len place) ≡ len = length-take-le len place (omega arith) in
    let added : length new ≡ count = ap length copied ∙ length-take-le count more (omega arith) in
    let same : count ≡ min (n - length (take len place)) (length more) = omega arith in
    take-put_mid len k place new (len + count) (omega arith) (omega arith)
    ∙ ap (λ xs. take len place ++ xs) (copied ∙ ap (λ m. take m more) same)
    ∙ sym (fitting n (take len place) more (omega arith))

pub returns : goal.returns
returns g c = search (rules, extended)
