use Rattle.std.proofs.Common.{take}
use Rattle.rr_book.specs.Books.{book_of}
use Rattle.rr_index.specs.Indexes.{HasIndexes}
use Rattle.rr_index.proofs.indexes.Indexes.of.Given as goal

abbrev pub invariant-loop-object : goal.invariant-loop-object
invariant-loop-object l = HasIndexes (book_of (take l.object-index l.objects)) l.indexes
