-- One call of a reader of paragraphs: parts that its contract does not name.
use Rattle.std.specs.Prelude.{◌≡◌, ◌≢◌, ℕ, ◌+◌, ◌*◌, ◌<◌, ◌≤◌, List}
use Rattle.std.specs.Prelude.{[], ◌++◌, length, Option, Some, None, Result, Ok, Err}
use Rattle.rr_io.specs.Told.{Told, Fails}
use Rattle.rr_io.specs.Receiving.{Gives, IsSpent, CountsReads, BreaksOff, read_limit, read_size}
use Rattle.rr_text.specs.declared.text_fault.TextFault.{TextFault}
use Rattle.rr_text.specs.declared.paragraphs.ParagraphsState.{ParagraphsState}
use Rattle.rr_text.specs.declared.paragraphs.ParagraphsState.TheVariants.{Open, Ended, Broken}
use Rattle.rr_text.specs.declared.paragraphs.ParagraphsState.TheVariants.{Endless}
use Rattle.rr_text.specs.declared.paragraphs.Paragraphs.{Paragraphs}
use Rattle.rr_text.specs.Fields.{Field}
use Rattle.rr_text.specs.Entries.{entries}
use Rattle.rr_text.specs.DraftParts.{IsUnclosed, IsClosed, GivesOne}
use Rattle.rr_text.specs.ParagraphReaders.{reads_of, held}

-- what is held is added up to the line that closes the block
pub record TakesClosed (past : List ℕ) (old new : Paragraphs) : Type 0 where
  pub prefix : List ℕ
  pub cut : held old ≡ prefix ++ held new
  pub closed : IsClosed (past ++ prefix) new.draft

-- no line closes the block: all that is held is added, and none of it is left
pub record TakesAll (past : List ℕ) (old new : Paragraphs) : Type 0 where
  pub none : held new ≡ []
  pub unclosed : IsUnclosed (past ++ held old) new.draft

-- a read gave bytes, which are held
pub record FillsMore (before after : Told) (old new : Paragraphs) : Type 0 where
  pub gives : Gives before after (held new)
  pub counts : CountsReads before after 1
  pub reads : reads_of new ≡ reads_of old + 1
  pub some : 0 < length (held new)

-- a read found no byte left
pub record FillsNone (before after : Told) (old new : Paragraphs) : Type 0 where
  pub gives : Gives before after []
  pub spent : IsSpent after
  pub counts : CountsReads before after 1
  pub reads : reads_of new ≡ reads_of old + 1
  pub none : held new ≡ []

-- a read failed
pub record FillsNot (before after : Told) (old new : Paragraphs) : Type 0 where
  pub fails : Fails before after
  pub reads : reads_of new ≡ reads_of old
  pub none : held new ≡ []

-- what a read brings, by whether the text goes on
abbrev pub Fills : Option ParagraphsState → Told → Told → Paragraphs → Paragraphs → Type 0
Fills None before after old new = FillsMore before after old new
Fills (Some Open) before after old new = ⊥
Fills (Some Ended) before after old new = FillsNone before after old new
Fills (Some Broken) before after old new = FillsNot before after old new
Fills (Some Endless) before after old new = ⊥

-- the bytes that were given in a call, by how the text stands then
abbrev pub GivesBy : ParagraphsState → Told → Told → List ℕ → Type 0
GivesBy Open before after given = Gives before after given
GivesBy Ended before after given = Gives before after given × IsSpent after
GivesBy Broken before after given = BreaksOff before after given
GivesBy Endless before after given = Gives before after given

-- these bytes were read in a call, and its reads are counted with those made before
pub record ReadsInCall (state : ParagraphsState) (before after : Told) (made : ℕ)
    (new : Paragraphs) (given : List ℕ) : Type 0 where
  pub gives : GivesBy state before after given
  pub count : ℕ
  pub counts : CountsReads before after count
  pub reads : reads_of new ≡ made + count
  pub fruitful : state ≢ Ended → count ≤ length given
  pub bounded : length given ≤ read_size * count

-- the text up to the end of a block was read
pub record GathersClosed (before after : Told) (left : List ℕ) (made : ℕ)
    (new : Paragraphs) : Type 0 where
  pub given : List ℕ
  pub prefix : List ℕ
  pub reading : ReadsInCall Open before after made new given
  pub cut : left ++ given ≡ prefix ++ held new
  pub closed : IsClosed prefix new.draft

-- all of the text was read that there is
pub record GathersRest (state : ParagraphsState) (before after : Told) (left : List ℕ) (made : ℕ)
    (new : Paragraphs) : Type 0 where
  pub given : List ℕ
  pub reading : ReadsInCall state before after made new given
  pub none : held new ≡ []
  pub unclosed : IsUnclosed (left ++ given) new.draft

-- what was read, by how the text stands then: a failed read comes before the limit of reads
abbrev pub Gathers : ParagraphsState → Told → Told → List ℕ → ℕ → Paragraphs → Type 0
Gathers Open before after left made new = GathersClosed before after left made new
Gathers Ended before after left made new = GathersRest Ended before after left made new
Gathers Broken before after left made new =
    GathersRest Broken before after left made new × (reads_of new < read_limit)
Gathers Endless before after left made new =
    GathersRest Endless before after left made new × (reads_of new ≡ read_limit)

-- the answer with the one entry of a text
abbrev pub GivesFound : List ℕ → Result (Option (List Field)) TextFault → Type 0
GivesFound text (Ok None) = ⊥
GivesFound text (Ok (Some fields)) = GivesOne text (Ok fields)
GivesFound text (Err fault) = GivesOne text (Err fault)

-- the answer with the last entry of a text, if it has one
abbrev pub GivesLast : List ℕ → Result (Option (List Field)) TextFault → Type 0
GivesLast text (Ok None) = entries text ≡ []
GivesLast text (Ok (Some fields)) = GivesOne text (Ok fields)
GivesLast text (Err fault) = GivesOne text (Err fault)
