-- What a line takes of the bytes that come. Assumes nothing.
use Rattle.std.specs.Prelude.{ℕ, ◌+◌, Bool, ◌==◌, List, ◌++◌, take, position, Option, option_map}
use Rattle.std.specs.List.{before_first}

-- a line ends at the byte 0A
abbrev pub ends_line : ℕ → Bool
ends_line byte = byte == 10

-- the bytes before the first line end; all where no line ends
abbrev pub before_line_end : List ℕ → List ℕ
before_line_end bytes = before_first ends_line bytes

-- what the line then holds: the first 97 of what it held and these
abbrev pub line_after : List ℕ → List ℕ → List ℕ
line_after held bytes = take 97 (held ++ before_line_end bytes)

-- how many bytes that took, the line end's own included; none where no line ends
abbrev pub bytes_taken : List ℕ → Option ℕ
bytes_taken bytes = option_map (λ before. before + 1) (position ends_line bytes)
