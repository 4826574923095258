-- The lists of a segment's tests are of one length. Assumes nothing.
use Rattle.std.proofs.Common.{◌≡◌, ◌+◌, Bool, true, false, cond, List, ◌++◌, length, sym, refl, ◌∙◌, ap₂, length-append}
use lib.ListN.{length-map}
use Rattle.cells.specs.Shape.{tests, none_of, firsts, endings, followers}
use Rattle.cells.proofs.Sums.{Even, even_append, even_map, even_each, length_each, length_either}
use Rattle.rule.specs.Tree.{Segment, single, either, chain, star}

pub none_length : (a : Segment) → length (none_of a) ≡ length (tests a)
none_length a = length-map (tests a) (λ t. false)

pub firsts_length : (a : Segment) → length (firsts a) ≡ length (tests a)
unfolding tests firsts
firsts_length (single t) = refl
firsts_length (either a b) = simp length-append (ap₂ ◌+◌ (firsts_length a) (firsts_length b))
firsts_length (chain a b) = simp length-append (ap₂ ◌+◌ (firsts_length a) (none_length b))
firsts_length (star a b) = simp length-append (ap₂ ◌+◌ (firsts_length a) (firsts_length b))

pub endings_length : (a : Segment) → length (endings a) ≡ length (tests a)
unfolding tests endings
endings_length (single t) = refl
endings_length (either a b) = simp length-append (ap₂ ◌+◌ (endings_length a) (endings_length b))
endings_length (chain a b) = simp length-append (ap₂ ◌+◌ (none_length a) (endings_length b))
endings_length (star a b) = simp length-append (ap₂ ◌+◌ (none_length a) (endings_length b))

pub followers_length : (a : Segment) → length (followers a) ≡ length (tests a)
unfolding tests followers
followers_length (single t) = refl
followers_length (either a b) = simp (length-append, length-map) (ap₂ ◌+◌ (followers_length a) (followers_length b))
followers_length (chain a b) = simp (length-append, length-map)
    (ap₂ ◌+◌ (length_each _ (endings a) (followers a) (endings_length a ∙ sym (followers_length a)) ∙ followers_length a) (followers_length b))
followers_length (star a b) = simp (length-append, length-map)
    (ap₂ ◌+◌ (length_each _ (endings a) (followers a) (endings_length a ∙ sym (followers_length a)) ∙ followers_length a) (followers_length b))

pub ends_rows : (a : Segment) → length (endings a) ≡ length (followers a)
ends_rows a = endings_length a ∙ sym (followers_length a)

-- a row for one part and a row for the other
side_by_side : (a b : Segment) (ps qs : List Bool) → length ps ≡ length (tests a) → length qs ≡ length (tests b)
    → length (ps ++ qs) ≡ length (tests a ++ tests b)
side_by_side a b ps qs p q = simp length-append (ap₂ ◌+◌ p q)

pub one_length : (e : Bool) (a : Segment) → length (cond e (firsts a) (none_of a)) ≡ length (tests a)
one_length true a = firsts_length a
one_length false a = none_length a

pub followers_even : (a : Segment) → Even (length (tests a)) (followers a)
unfolding tests followers
followers_even (single t) = (refl, record {})
followers_even (either a b) = even_append _ _ _
    (even_map _ _ _ (λ row l. side_by_side a b row (none_of b) l (none_length b)) (followers a) (followers_even a))
    (even_map _ _ _ (λ row l. side_by_side a b (none_of a) row (none_length a) l) (followers b) (followers_even b))
followers_even (chain a b) = even_append _ _ _
    (even_each _ _ _ (λ e row l. side_by_side a b row _ l (one_length e b)) (endings a) (followers a) (followers_even a))
    (even_map _ _ _ (λ row l. side_by_side a b (none_of a) row (none_length a) l) (followers b) (followers_even b))
followers_even (star a b) = even_append _ _ _
    (even_each _ _ _ (λ e row l. side_by_side a b _ _
    (length_either row (cond e (firsts a) (none_of a)) (l ∙ sym (one_length e a)) ∙ l) (one_length e b)) (endings a) (followers a) (followers_even a))
    (even_map _ _ _ (λ row l. side_by_side a b (none_of a) row (none_length a) l) (followers b) (followers_even b))
