-- What a bit letter says. Assumes nothing.
use Rattle.std.specs.Prelude.{ℕ, ◌/◌, ◌%◌, ◌^◌, Bool, cond, ◌&&◌, None, ◌==◌, nat_lt}
use Rattle.letter.specs.declared.bits.Bits.{Bits}
use Rattle.letter.specs.Heard.{Heard}
use Rattle.scale.specs.declared.verdict.Verdict.{Verdict}
use Rattle.scale.specs.declared.verdict.Verdict.TheVariants.{Broken, Kept}

-- whether bit c of a word is set, for c below 16
abbrev pub bit : ℕ → ℕ → Bool
bit word c = nat_lt c 16 && word / 2 ^ c % 2 == 1

-- a bit letter is always fit; a channel is best if its bit is set, else worst
abbrev pub bits_heard : Bits → Heard Verdict
bits_heard l = record { unfit = None; value = λ c. cond (bit l.word c) Kept Broken }
