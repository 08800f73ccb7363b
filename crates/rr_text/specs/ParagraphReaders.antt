-- The reading of a text paragraph by paragraph, what was given of it so far (profile): for
-- `Paragraphs`, and for all that reads submissions and dumps.
use Rattle.std.specs.Prelude.{◌≡◌, ℕ, ◌+◌, ◌-◌, ◌*◌, ◌<◌, ◌≤◌, ⊤}
use Rattle.std.specs.Prelude.{List, [], ◌∷◌, ◌++◌, length, take, drop, Option, Some, None}
use Rattle.std.specs.Prelude.{Result, Ok, Err, IfOk, IfSome}
use Rattle.rr_io.specs.Told.{Told}
use Rattle.rr_io.specs.Receiving.{Gives, IsSpent, CountsReads, Reads, read_limit, read_size}
use Rattle.rr_io.specs.declared.receiving.ReadEnd.{ReadEnd}
use Rattle.rr_io.specs.declared.receiving.ReadEnd.TheVariants as end
use Rattle.rr_text.specs.declared.text_fault.TextFault.{TextFault}
use Rattle.rr_text.specs.declared.text_fault.TextFault.TheVariants as fault
use Rattle.rr_text.specs.declared.paragraphs.ParagraphsState.{ParagraphsState}
use Rattle.rr_text.specs.declared.paragraphs.ParagraphsState.TheVariants.{Open, Ended, Broken}
use Rattle.rr_text.specs.declared.paragraphs.ParagraphsState.TheVariants.{Endless}
use Rattle.rr_text.specs.declared.paragraphs.Paragraphs.{Paragraphs}
use Rattle.rr_text.specs.Fields.{Field, AreFields}
use Rattle.rr_text.specs.Entries.{entries}
use Rattle.rr_text.specs.WholePart.{whole_part, whole_entries}

-- the entry of a block: its paragraph, or its fault
abbrev pub Entry : Type 0
Entry = Result (List Field) TextFault

-- how the reading of a text stands: open, ended, broken or endless
abbrev pub state_of : Paragraphs → ParagraphsState
state_of p = p.state

-- how many reads were made that did not fail
abbrev pub reads_of : Paragraphs → ℕ
reads_of p = p.reads

-- the bytes that were read and of which no entry was given yet
abbrev pub held : Paragraphs → List ℕ
held p = drop p.from (take p.to p.block)

-- paragraphs of a text of which nothing was read: the reading is open, no read was made, and
-- nothing is held
pub record IsNew (p : Paragraphs) : Type 0 where
  pub state : state_of p ≡ Open
  pub no_read : reads_of p ≡ 0
  pub none_held : held p ≡ []

-- the prefix whose entries were given is apart from what comes. While the reading is open it is
-- empty or ends with the LF of a blank line; at the end nothing is held and nothing comes. After a
-- failed read, and at the limit of reads, this is said of no prefix
abbrev pub KeepsApart : ParagraphsState → Told → List ℕ → List ℕ → Type 0
KeepsApart Open now prefix left = whole_part prefix ≡ prefix
KeepsApart Ended now prefix left = (left ≡ []) × IsSpent now
KeepsApart Broken now prefix left = ⊥
KeepsApart Endless now prefix left = ⊥

-- of the bytes read from the start on, however they were cut, the entries of a prefix were given,
-- and the other bytes are held. The prefix is apart from what comes, and has no fewer bytes than
-- entries. The reads are counted: each gave on the average at most 4,096 bytes and, while the
-- reading is open, at least 1
pub record HasGiven (start now : Told) (p : Paragraphs) (given : List Entry) : Type 0 where
  pub text : List ℕ
  pub prefix : List ℕ
  pub gives : Gives start now text
  pub cut : text ≡ prefix ++ held p
  pub spelled : entries prefix ≡ given
  pub apart : KeepsApart (state_of p) now prefix (held p)
  pub counts : CountsReads start now (reads_of p)
  pub fruitful : state_of p ≡ Open → reads_of p ≤ length text
  pub bounded : length text ≤ read_size * reads_of p
  pub few : length given ≤ length prefix

-- the entries that count of a text, by how its reading ended: all where it was read to its end.
-- After a failed read, or without an end, those that a blank line closes
abbrev pub entries_by : ReadEnd → List ℕ → List Entry
entries_by end.Whole text = entries text
entries_by end.Broken text = whole_entries text
entries_by end.Endless text = whole_entries text

-- the reading of the text ended so, and these are its entries that count
pub record HasEnded (start now : Told) (ended : ReadEnd) (given : List Entry) : Type 0 where
  pub text : List ℕ
  pub reads : Reads start now text ended
  pub spelled : entries_by ended text ≡ given

-- an answer gives one entry more. Or it says how the reading ended, as the state then does: at the
-- end of the text, by a failed read or at the limit of reads. These were then all entries that
-- count. If memory ran out, an entry is passed over, and is not told
abbrev pub GivesNext : Told → Told → Paragraphs → List Entry
    → Result (Option (List Field)) TextFault → Type 0
GivesNext start now p given (Ok None) = (state_of p ≡ Ended) × HasEnded start now end.Whole given
GivesNext start now p given (Ok (Some fields)) = HasGiven start now p (given ++ Ok fields ∷ [])
GivesNext start now p given (Err fault.TooLarge) =
    HasGiven start now p (given ++ Err fault.TooLarge ∷ [])
GivesNext start now p given (Err fault.BadByte) =
    HasGiven start now p (given ++ Err fault.BadByte ∷ [])
GivesNext start now p given (Err fault.FirstContinues) =
    HasGiven start now p (given ++ Err fault.FirstContinues ∷ [])
GivesNext start now p given (Err fault.NoColon) =
    HasGiven start now p (given ++ Err fault.NoColon ∷ [])
GivesNext start now p given (Err fault.BadName) =
    HasGiven start now p (given ++ Err fault.BadName ∷ [])
GivesNext start now p given (Err fault.Memory) =
    (entry : Entry) × HasGiven start now p (given ++ entry ∷ [])
GivesNext start now p given (Err fault.Read) =
    (state_of p ≡ Broken) × HasEnded start now end.Broken given
GivesNext start now p given (Err fault.Endless) =
    (state_of p ≡ Endless) × HasEnded start now end.Endless given

-- the answer of a call goes with whatever was given in the calls before, from the same reader
abbrev pub GivesOn : Told → Told → Paragraphs → Paragraphs
    → Result (Option (List Field)) TextFault → Type 0
GivesOn before after old new answer = (start : Told) (given : List Entry)
    → HasGiven start before old given → GivesNext start after new given answer

-- at the end, after a failed read or at the limit of reads the answer is the same for good, nothing
-- is read, and nothing changes
abbrev pub Stays : {R : Type 0} → ParagraphsState → R → R → Paragraphs → Paragraphs
    → Result (Option (List Field)) TextFault → Type 0
Stays Open before after old new answer = ⊤
Stays Ended before after old new answer =
    (answer ≡ Ok None) × (after ≡ before) × (new ≡ old)
Stays Broken before after old new answer =
    (answer ≡ Err fault.Read) × (after ≡ before) × (new ≡ old)
Stays Endless before after old new answer =
    (answer ≡ Err fault.Endless) × (after ≡ before) × (new ≡ old)

-- a bound on how many answers are left before the last one: the bytes that are held, and 4,097 for
-- each read still to come
abbrev pub left_of : Paragraphs → ℕ
left_of p = (read_limit - reads_of p) * (read_size + 1) + length (held p)

-- an answer other than the last one leaves fewer of them
abbrev pub Nearer : ℕ → ℕ → Result (Option (List Field)) TextFault → Type 0
Nearer before after (Ok None) = ⊤
Nearer before after (Ok (Some fields)) = after < before
Nearer before after (Err fault.TooLarge) = after < before
Nearer before after (Err fault.BadByte) = after < before
Nearer before after (Err fault.FirstContinues) = after < before
Nearer before after (Err fault.NoColon) = after < before
Nearer before after (Err fault.BadName) = after < before
Nearer before after (Err fault.Memory) = after < before
Nearer before after (Err fault.Read) = ⊤
Nearer before after (Err fault.Endless) = ⊤

-- what one call for the next paragraph answers: it goes on after all that was given before, and
-- once the reading has ended it is the same for good. Each answer but the last leaves fewer to
-- come. A paragraph has at least one attribute, and its attributes are well formed. Of a
-- connection, the other side stays as it was (profile)
pub record AnswersNext {R : Type 0} (told : R → Told) (before after : R) (old new : Paragraphs)
    (answer : Result (Option (List Field)) TextFault) : Type 0 where
  pub given : GivesOn (told before) (told after) old new answer
  pub stays : Stays (state_of old) before after old new answer
  pub nearer : Nearer (left_of old) (left_of new) answer
  pub fields : IfOk answer (λ next. IfSome next (λ paragraph. (0 < length paragraph)
      × AreFields paragraph))
  pub aside : (told after).aside ≡ (told before).aside
