-- Registries that look alike answer alike.
use Rattle.std.proofs.Common.{◌≡◌, ℕ, Bool, true, false, List, sym, ap, ◌∙◌}
use Rattle.std.specs.Prelude.{Result, Ok, Err, if◌then◌else◌}
use Rattle.rr_number.specs.SetNames.{kind_of}
use Rattle.rr_object.specs.Objects.{Obj}
use Rattle.rr_object.specs.Readings.{is_from, obj_of, object_of, result_and_then}
use Rattle.rr_object.specs.declared.object_fault.ObjectFault.{ObjectFault}
use Rattle.rr_object.specs.declared.object_fault.ObjectFault.TheVariants.{OtherSource}
use Rattle.rr_text.specs.Fields.{Field}
use Rattle.rr_auth.specs.Registries.{Reg}
use Rattle.rr_answer.specs.declared.query_fault.QueryFault.{QueryFault}
use Rattle.rr_answer.specs.declared.query.Query.{Query}
use Rattle.rr_answer.specs.declared.query.Query.TheVariants.{Object, Exact, Closest, Less, More}
use Rattle.rr_answer.specs.declared.query.Query.TheVariants.{Naming, Originated, Expand, Prefixes}
use Rattle.rr_answer.specs.Answers.{IsAnswer, IsAnswerOf}
use Rattle.rr_answer.specs.Queries.{query_of}
use Rattle.rr_answer.specs.Secrecy.{AnswersKeepSecrets, DumpsKeepSecrets, SourcesAreRead}
use Rattle.rr_answer.specs.Selections.{asked}
use Rattle.rr_answer.specs.Texts.{objects_text}
use Rattle.rr_answer.proofs.Alike.{Alike, seen_alike_at}
use Rattle.rr_answer.proofs.Expanded.{expanded_answers, range_answers}
use Rattle.rr_answer.proofs.Selected.{asked_alike, dumps_alike, objects_alike}

text_answers : (query : Query) (r s : Reg) (a b : Result (List ℕ) QueryFault) → Alike r s
    → a ≡ Ok (objects_text (asked query r)) → b ≡ Ok (objects_text (asked query s)) → a ≡ b
text_answers query r s a b alike p q =
    p ∙ ap Ok (objects_alike (asked query r) (asked query s) (asked_alike query r s alike)) ∙ sym q

answers_alike : (query : Query) (r s : Reg) (limit : ℕ) (a b : Result (List ℕ) QueryFault) →
    Alike r s
    → IsAnswer r limit query a → IsAnswer s limit query b → a ≡ b
answers_alike (Object k) r s limit a b alike p q = text_answers (Object k) r s a b alike p q
answers_alike (Exact x) r s limit a b alike p q = text_answers (Exact x) r s a b alike p q
answers_alike (Closest x) r s limit a b alike p q = text_answers (Closest x) r s a b alike p q
answers_alike (Less x) r s limit a b alike p q = text_answers (Less x) r s a b alike p q
answers_alike (More x) r s limit a b alike p q = text_answers (More x) r s a b alike p q
answers_alike (Naming n) r s limit a b alike p q = text_answers (Naming n) r s a b alike p q
answers_alike (Originated n) r s limit a b alike p q = text_answers (Originated n) r s a b alike p q
answers_alike (Expand n) r s limit a b alike p q = expanded_answers (kind_of n) r s limit n a b
    alike p q
answers_alike (Prefixes n) r s limit a b alike p q = range_answers r s limit n a b alike p q

read_alike : (read : Result Query QueryFault) (r s : Reg) (limit : ℕ)
    (a b : Result (List ℕ) QueryFault) → Alike r s
    → IsAnswerOf r limit read a → IsAnswerOf s limit read b → a ≡ b
read_alike (Ok query) r s limit a b alike p q = answers_alike query r s limit a b alike p q
read_alike (Err fault) r s limit a b alike p q = p ∙ sym q

pub answers_keep : AnswersKeepSecrets
answers_keep r s p q look limit text a b first second = read_alike (query_of text) r s limit a b
    (seen_alike_at r s p q look) first second

pub dumps_keep : DumpsKeepSecrets
dumps_keep r s p q look = dumps_alike r s (seen_alike_at r s p q look)

-- an object that is taken from its source was read
read_before : (read : Result Obj ObjectFault) (b : Bool) (o : Obj)
    → result_and_then (λ object. if b then Ok object else Err OtherSource) read ≡ Ok o → read ≡ Ok o
read_before (Ok x) true o e = e
read_before (Ok x) false o e = cc
read_before (Err fault) b o e = cc

read_anywhere : (fields : List Field) (source : List ℕ) (o : Obj) → object_of fields source
    ≡ Ok o → obj_of fields ≡ Ok o
unfolding object_of
read_anywhere fields source o e = read_before (obj_of fields) (is_from source fields) o e

pub sources_read : SourcesAreRead
sources_read source r of = record {
  keyed = of.sound.keyed;
  read = λ k o e. read_anywhere o.paragraph source o (of.read k o e);
}
