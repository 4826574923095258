-- What a measured letter says. Assumes nothing.
use Rattle.std.specs.Prelude.{ℕ, zero, suc, ◌+◌, Bool, cond, not, ◌&&◌, ◌||◌, ℤ, pos, ◌+ℤ◌, ◌-ℤ◌, ◌*ℤ◌, Some, None, Option, nat_lt, slice_index_or, unsigned_abs}
use Rattle.letter.specs.declared.measured.Measured.{Measured}
use Rattle.letter.specs.Heard.{Heard}
use Rattle.scale.specs.declared.margin.Margin.{Margin}
use Rattle.scale.specs.Margins.{least, margin_of}

-- readings and limits go from -8,191 to 8,191
abbrev pub outside : ℤ → Bool
outside z = nat_lt 8191 (unsigned_abs z)

abbrev pub reading : Measured → ℕ → ℤ
reading l c = slice_index_or l.readings c (pos 0)

abbrev pub limit : Measured → ℕ → ℤ
limit l c = slice_index_or l.limits c (pos 0)

-- a channel is unfit when its reading or its limit is out of range
abbrev pub channel_unfit : Measured → ℕ → Bool
channel_unfit l c = outside (reading l c) || outside (limit l c)

-- the lowest of count numbers from the first one on that passes
unfoldable pub lowest : (ℕ → Bool) → ℕ → ℕ → Option ℕ
lowest passes zero first = None
lowest passes (suc count) first = cond (passes first) (Some first) (lowest passes count (first + 1))

-- twice the reading above the limit, and one
abbrev pub over_by : ℤ → ℤ → Margin
over_by r s = margin_of (pos 2 *ℤ (r -ℤ s) +ℤ pos 1)

-- the lowest unfit channel; an unfit channel, and a number that names none, has the worst value
abbrev pub measured_heard : Measured → Heard Margin
measured_heard l = record {
  unfit = lowest (channel_unfit l) 16 0;
  value = λ c. cond (nat_lt c 16 && not (channel_unfit l c)) (over_by (reading l c) (limit l c)) least;
}
