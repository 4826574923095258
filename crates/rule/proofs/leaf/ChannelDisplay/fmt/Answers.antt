-- A channel's number in two digits. Assumes nothing.
use Rattle.std.proofs.Common.{◌≡◌, ℕ, ◌+◌, ◌<◌, ◌/◌, ◌%◌, ◌^◌, [], ◌∷◌, ⊎_elim, arith}
use Rattle.std.specs.Fmt.{styled_decimal, padded_integral, char_count, format_spec}
use Rattle.std.proofs.lemmas.Bool.{cases_lt}
use Rattle.std.proofs.lemmas.Fmt.{decimal_digit, decimal_step}
use Rattle.rule.proofs.leaf.ChannelDisplay.fmt.Goals as goal

two_digits : (n : ℕ) → n < 16 → styled_decimal (format_spec 32 0 4 2 18446744073709551615) n ≡ (48 + n / 10) ∷ (48 + n % 10) ∷ []
unfolding padded_integral char_count
two_digits n few = ⊎_elim
    (λ one. let high : n / 10 ≡ 0 = omega arith in let low : n % 10 ≡ n = omega arith in rw (decimal_digit n one, high, low))
    (λ two. let small : n < 2 ^ 64 = omega arith in let low : n / 10 < 10 = omega arith in rw (decimal_step n two small, decimal_digit (n / 10) low))
    (cases_lt n 10)

pub returns-clause-writes : goal.returns-clause-writes
returns-clause-writes g c = rw (c.laid_out.ensures, two_digits c.args.self.now.number c.args.self.now.few) at c.write.ensures.writes
