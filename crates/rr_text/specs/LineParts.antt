-- What is known of a line of which a prefix was read: parts of the reader of paragraphs.
use Rattle.std.specs.Prelude.{ℕ, Bool, List, [], ◌∷◌, if◌then◌else◌}
use Rattle.rr_text.specs.declared.line_so_far.LineSoFar.{LineSoFar}
use Rattle.rr_text.specs.declared.line_so_far.LineSoFar.TheVariants.{Nothing, Blank, Skipped, Kept}
use Rattle.rr_text.specs.declared.line_so_far.LineEnd.{LineEnd}
use Rattle.rr_text.specs.declared.line_so_far.LineEnd.TheVariants.{Passed, Taken, Closed}
use Rattle.rr_text.specs.Lines.{is_blank_line, is_skipped_line}

-- the kind of the beginning of a line; that of the line is the same once a byte other than a blank
-- was read
abbrev pub line_so_far : List ℕ → LineSoFar
line_so_far [] = Nothing
line_so_far (b ∷ bs) = if is_skipped_line (b ∷ bs) then Skipped
    else (if is_blank_line (b ∷ bs) then Blank else Kept)

-- the kind of a prefix with more bytes after it
abbrev pub line_with : LineSoFar → List ℕ → LineSoFar
line_with Nothing more = line_so_far more
line_with Blank more = if is_blank_line more then Blank else Kept
line_with Skipped more = Skipped
line_with Kept more = Kept

-- what the end of a line does, by whether the block has begun. A line of blanks alone closes a
-- block that has, and a skipped line is a line of such a block; before one, both are passed over.
-- Any other line is one of the block, which it may begin
abbrev pub end_of_line : Bool → LineSoFar → LineEnd
end_of_line started Nothing = if started then Closed else Passed
end_of_line started Blank = if started then Closed else Passed
end_of_line started Skipped = if started then Taken else Passed
end_of_line started Kept = Taken
