-- The kind of an operator under an odd number of `!`. Assumes nothing.
use Rattle.std.specs.Prelude.{Bool, cond}
use Rattle.rule.specs.declared.leaf.Kind.{Kind}
use Rattle.rule.specs.declared.leaf.Kind.TheVariants.{SomeStrong, SomeWeak, EveryStrong, EveryWeak}

-- E and a change places, and so do e and A
abbrev pub dual : Kind → Kind
dual SomeStrong = EveryWeak
dual SomeWeak = EveryStrong
dual EveryStrong = SomeWeak
dual EveryWeak = SomeStrong

-- the kind that stands for another where `!` is driven inward
abbrev pub kind_under : Bool → Kind → Kind
kind_under odd k = cond odd (dual k) k
