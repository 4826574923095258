-- Which tests of a segment may read its first letter, its last, and the letter after another's: by shape alone, a flag for
-- each test in text order. Assumes nothing.
use Rattle.std.specs.Prelude.{Bool, true, false, cond, ◌||◌, List, [], ◌∷◌, ◌++◌, map}
use Rattle.rule.specs.declared.leaf.Test.{Test}
use Rattle.rule.specs.Tree.{Segment, single, either, chain, star}

-- the tests of a segment, in text order
unfoldable pub tests : Segment → List Test
tests (single t) = t ∷ []
tests (either a b) = tests a ++ tests b
tests (chain a b) = tests a ++ tests b
tests (star a b) = tests a ++ tests b

-- a flag for each test, none set
abbrev pub none_of : Segment → List Bool
none_of a = map (λ t. false) (tests a)

-- a first test may read the segment's first letter
unfoldable pub firsts : Segment → List Bool
firsts (single t) = true ∷ []
firsts (either a b) = firsts a ++ firsts b
firsts (chain a b) = firsts a ++ none_of b
firsts (star a b) = firsts a ++ firsts b

-- an ending test may read its last
unfoldable pub endings : Segment → List Bool
endings (single t) = true ∷ []
endings (either a b) = endings a ++ endings b
endings (chain a b) = none_of a ++ endings b
endings (star a b) = none_of a ++ endings b

-- flag by flag, one or the other
abbrev pub either_of : List Bool → List Bool → List Bool
either_of [] ys = ys
either_of (x ∷ xs) [] = x ∷ xs
either_of (x ∷ xs) (y ∷ ys) = (x || y) ∷ either_of xs ys

-- flags joined to rows of flags: to each row what f makes of its flag
abbrev pub with_each : (Bool → List Bool → List Bool) → List Bool → List (List Bool) → List (List Bool)
with_each f [] rows = []
with_each f (x ∷ xs) [] = []
with_each f (x ∷ xs) (row ∷ rows) = f x row ∷ with_each f xs rows

-- for each test, its followers: the tests that may read the letter after the one it reads
unfoldable pub followers : Segment → List (List Bool)
followers (single t) = (false ∷ []) ∷ []
followers (either a b) = map (λ row. row ++ none_of b) (followers a) ++ map (λ row. none_of a ++ row) (followers b)
followers (chain a b) =
    with_each (λ ends row. row ++ cond ends (firsts b) (none_of b)) (endings a) (followers a)
    ++ map (λ row. none_of a ++ row) (followers b)
followers (star a b) =
    with_each (λ ends row. either_of row (cond ends (firsts a) (none_of a)) ++ cond ends (firsts b) (none_of b)) (endings a) (followers a)
    ++ map (λ row. none_of a ++ row) (followers b)

abbrev pub some_set : List Bool → Bool
some_set [] = false
some_set (x ∷ xs) = x || some_set xs

-- a test with a follower has a cell
abbrev pub with_cell : Segment → List Bool
with_cell a = map some_set (followers a)
