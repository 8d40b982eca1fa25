-- Queued items rise in number and aren't held, and the Send of a queued message is the open call of its
-- sender.
use Rattle.qrules_laws.proofs.Common.{List, Member, OpenCall, Receive, Send, Some, Trace, all_more, ap, is_ended}
use Rattle.qrules_laws.proofs.Common.{is_for_receipt, none_of, not, not-true, open_call, open_own, option_and_then}
use Rattle.qrules_laws.proofs.Common.{or_parts, pending_all, pending_items, sender_of, sent_by, sym, true, true≢false}
use Rattle.qrules_laws.proofs.Common.{ℕ, ◌&&◌, ◌∙◌, ◌≡◌}
use Rattle.qmodel.specs.OpenCalls.{number_of, send_in}
use Rattle.qrules.specs.Facts.{send_of}
use Rattle.qrules.specs.Lawful.{facts_of}
use Rattle.qrules_laws.specs.Pending as laws

pub none_pending_is_held : laws.NonePendingIsHeld
none_pending_is_held roster past r l h =
    all_more _ _ (pending_items roster past h) (pending_all roster past h)
    (λ item p. ap (λ b. b && not (is_ended past item.number)) (or_parts _ _ p.stays).0)

unreceived : (roster : List Member) (past : Trace) (i t : ℕ) (o : OpenCall) → sender_of past i ≡ Some t
    → open_call roster past t ≡ Some o → number_of o ≡ i → is_for_receipt o ≡ true → laws.IsUnreceived roster past i
unreceived roster past i t (Send s) sent is number unread =
    let own : s.thread ≡ t = open_own roster past t (Send s) is in
    record {
      send = s;
      number = number;
      sent = sent ∙ ap Some (sym own);
      is_open = ap (send_of (facts_of roster past)) own ∙ ap (option_and_then send_in) is;
      unread = none_of s.receipt (not-true _ unread);
    }
unreceived roster past i t (Receive r) sent is number unread = absurd (true≢false (sym unread))

pub pending_is_open : laws.PendingIsOpen
pending_is_open roster past r l h =
    all_more _ _ (pending_items roster past h) (pending_all roster past h) (λ item p message.
    let s = sent_by roster past h item l p message in
    unreceived roster past item.number s.sender s.waiting s.sent s.is_open s.number s.unread)
