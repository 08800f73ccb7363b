-- Registries that look alike tell the same of the same questions.
use Rattle.std.proofs.Common.{◌≡◌, ◌≢◌, ℕ, false, List, ◌∷◌, Result, Err, refl, sym, ap, subst, ◌∙◌}
use Rattle.rr_auth.specs.Registries.{Reg}
use Rattle.rr_answer.specs.Answers.{answer_bytes}
use Rattle.rr_answer.specs.Dumps.{dump}
use Rattle.rr_answer.specs.Secrecy.{IsRead, LookAlike}
use Rattle.rr_answer.specs.declared.query_fault.QueryFault.{QueryFault}
use Rattle.rr_answer.specs.declared.query_fault.QueryFault.TheVariants.{Memory}
use Rattle.rr_answer.proofs.Secrets.{dumps_keep}
use Rattle.rr_desk.specs.Answering.{IsAnswered}
use Rattle.rr_desk.specs.Events.{Event, asked, dumped}
use Rattle.rr_desk.specs.HistoryLaws.{AreSameQuestions, HistoriesKeepSecrets, IsKeptBack, a_dump}
use Rattle.rr_desk.specs.HistoryLaws.{a_query, no_more}
use Rattle.rr_desk.specs.Modes.{Mode, Moves, RunsAs, answers, prints, running}
use Rattle.rr_desk.specs.Settings.{SettingsParts}
use Rattle.rr_desk.proofs.DeskSecrets.{desks_keep}

module _ (by other : SettingsParts) (r s : Reg) (limits : by.limit ≡ other.limit)
    (read_r : IsRead r) (read_s : IsRead s) (alike : LookAlike r s) where
  -- what a registry that runs tells of a query
  record Answered (by_one : SettingsParts) (q : Reg) (text bytes : List ℕ) (next : Mode) :
      Type 0 where
    pub answer : Result (List ℕ) QueryFault
    pub is : bytes ≡ answer_bytes answer
    pub reply : IsAnswered q by_one.limit text false answer
    pub then : next ≡ running by_one q

  answered : (by_one : SettingsParts) (q : Reg) (text bytes : List ℕ) (next : Mode) →
      Moves (running by_one q) (asked text bytes) next → Answered by_one q text bytes next
  answered by_one q text bytes next (answers _ _ _ answer reply) =
      record { answer = answer; is = refl; reply = reply; then = refl }

  not_kept : (bytes : List ℕ) (answer : Result (List ℕ) QueryFault) → bytes ≡ answer_bytes answer →
      ¬ IsKeptBack bytes → answer ≢ Err Memory
  not_kept bytes answer is told same = told (is ∙ ap answer_bytes same)

  printed : (by_one : SettingsParts) (q : Reg) (bytes : List ℕ) (next : Mode) →
      Moves (running by_one q) (dumped false bytes) next → (bytes ≡ dump false q)
      × (next ≡ running by_one q)
  printed by_one q bytes next (prints _ _ _) = (refl, refl)

  same_told : (events others : List Event) (mode end : Mode) → AreSameQuestions events others
      → RunsAs (running by r) events mode → RunsAs (running other s) others end → events ≡ others
  same_told events others mode end no_more runs_one runs_two = refl
  same_told events others mode end (a_query text bytes more es fs told told_too same) runs_one
      runs_two =
      let first = answered by r text bytes runs_one.0 runs_one.1 in
      let second = answered other s text more runs_two.0 runs_two.1 in
      let answer : first.answer ≡ second.answer =
      desks_keep r s read_r read_s alike by.limit text false first.answer second.answer first.reply
      (subst (λ limit. IsAnswered s limit text false second.answer) (sym limits) second.reply)
      (not_kept bytes first.answer first.is told) (not_kept more second.answer second.is
      told_too) in
      let said : bytes ≡ more = first.is ∙ (ap answer_bytes answer ∙ sym second.is) in
      let rest : es ≡ fs = same_told es fs mode end same
      (subst (λ (m : Mode). RunsAs m es mode) first.then runs_one.2)
      (subst (λ (m : Mode). RunsAs m fs end) second.then runs_two.2) in
      λ i. asked text (said i) ∷ rest i
  same_told events others mode end (a_dump bytes more es fs same) runs_one runs_two =
      let first = printed by r bytes runs_one.0 runs_one.1 in
      let second = printed other s more runs_two.0 runs_two.1 in
      let said : bytes ≡ more = first.0 ∙ (dumps_keep r s read_r read_s alike ∙ sym second.0) in
      let rest : es ≡ fs = same_told es fs mode end same
      (subst (λ (m : Mode). RunsAs m es mode) first.1 runs_one.2)
      (subst (λ (m : Mode). RunsAs m fs end) second.1 runs_two.2) in
      λ i. dumped false (said i) ∷ rest i

pub histories_keep : HistoriesKeepSecrets
histories_keep by other r s limits read_r read_s alike events others mode end same runs_one
    runs_two =
    same_told by other r s limits read_r read_s alike events others mode end same runs_one runs_two
