-- What a connection of a reader and a writer is made of: for `Joined`.
use Rattle.rr_io.specs.declared.joining.Joined.{Joined}

-- the reader of a connection that is made of two
abbrev pub joined_reader : {R W : Type 0} → Joined R W → R
joined_reader j = j.reader

-- the writer of a connection that is made of two
abbrev pub joined_writer : {R W : Type 0} → Joined R W → W
joined_writer j = j.writer
