-- Lemmas on serving a connection.
use Rattle.std.proofs.Common.{◌≡◌, ℕ, ◌-◌, inr, Bool, List, [], length, take, drop, subst, sym, ap}
use Rattle.std.proofs.Common.{refl, arith}
use Rattle.std.proofs.lemmas.List.{length-drop, take_all}
use Rattle.rr_io.specs.Told.{Told}
use Rattle.rr_desk.specs.Turns.{ConnEnd, Visit}
use Rattle.rr_http.specs.declared.asking.Refusal.{Refusal}
use Rattle.rr_http.specs.declared.registrar.Registrar.{Ghosts}
use Rattle.rr_http.specs.declared.heads.Head.TheVariants.{Whois, Http, Refused}
use Rattle.rr_http.specs.Answering.{RepliesWithAnswer}
use Rattle.rr_http.specs.Replies.{refusal_reply}
use Rattle.rr_http.specs.Requests.{Asks, refused}
use Rattle.rr_http.specs.Serving.{IsUntouched, Replies, Serves, ServesAsks, ServesWants, visit_of}
use Rattle.rr_http.specs.ServingParts.{ServesHead}
use Rattle.rr_http.specs.Wants.{HeadWants, IsHead, ReadsHead, RequestAsks, RequestWants, is_full}
use Rattle.rr_http.specs.Wants.{whois, http}
use Rattle.rr_http.proofs.WantLemmas.{wants_kept}

-- what is done of what the head of a connection wants serves it; the writer stayed as it was while
-- the head was read
pub head_served : {D : Type 0} (registrar : Ghosts D) (before after : D)
    (reader_old between reader_new old middle new : Told) (result : ConnEnd) (head : List ℕ)
    (at_end : Bool) →
    ReadsHead reader_old between head at_end → middle ≡ old → ServesHead registrar head before
    after (visit_of between reader_new middle new result) →
    Serves registrar before after (visit_of reader_old reader_new old new result)
head_served registrar before after reader_old between reader_new old middle new result head at_end
    reads still done = inr (record {
      head = head;
      at_end = at_end;
      between = between;
      wants = done.wants;
      reads = reads;
      is_wanted = λ more over. wants_kept head more at_end done.wants reads.short reads.settled over
          done.are_wanted;
      serves = subst (λ told. ServesWants registrar head done.wants before after
          (visit_of between reader_new told new result)) still done.serves;
    })

module _ {D : Type 0} (registrar : Ghosts D) (read : List ℕ) (before after : D)
    (visit : Visit) where
  -- a query by whois was answered
  pub whois_served : (count : ℕ) → IsHead read (Whois count) → visit.reader_after
      ≡ visit.reader_before →
      RepliesWithAnswer registrar.Answers [] (take count read) before after visit.writer_before
      visit.writer_after visit.ended → ServesHead registrar read before after visit
  whois_served count head unread answered = record {
    wants = whois (take count read);
    are_wanted = subst (λ speaks. HeadWants speaks read (is_full read) (whois (take count read)))
        (sym head.0) (ap whois head.2);
    serves = (unread, answered);
  }

  -- what a request asks was done
  pub http_served : (count : ℕ) (asks : Asks) → IsHead read (Http count) →
      RequestAsks (take count read) asks →
      ServesAsks registrar (take (length read - count) (drop count read)) asks before after visit →
      ServesHead registrar read before after visit
  http_served count asks head asked serves = record {
    wants = http count asks;
    are_wanted = subst (λ speaks. HeadWants speaks read (is_full read) (http count asks))
        (sym head.0)
        (subst (λ found. RequestWants found read (is_full read) (http count asks)) (sym head.2)
        (asks, asked, refl));
    serves = subst (λ xs. ServesAsks registrar xs asks before after visit)
        (take_all _ _ (omega (arith, length-drop count read))) serves;
  }

  -- a head that is not whole was refused
  pub refusal_served : (refusal : Refusal) → IsHead read (Refused refusal) →
      IsUntouched before after visit → Replies (refusal_reply refusal) visit →
      ServesHead registrar read before after visit
  refusal_served refusal head left replies = record {
    wants = http 0 (refused refusal);
    are_wanted = subst (λ speaks. HeadWants speaks read (is_full read) (http 0 (refused refusal)))
        (sym head.0)
        (subst (λ found. RequestWants found read (is_full read) (http 0 (refused refusal)))
        (sym head.1) (ap (λ r. http 0 (refused r)) head.2));
    serves = (left, replies);
  }
