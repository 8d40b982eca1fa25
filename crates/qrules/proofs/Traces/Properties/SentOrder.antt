-- Of the items that were sent over one connection and have one priority when one of them is received, the
-- first sent is received first.
use Rattle.qrules.proofs.Common.{◌≡◌, ◌∙◌, ℕ, ◌≤◌, List, [], ◌∷◌, ap, sym, subst, arith, true, inl, inr, cases_eq}
use Rattle.qrules.proofs.Common.{connection_of, number_received, takeable, BestFirst, IsEarliest, SentOrder, TakesBest}
use Rattle.qrules.proofs.Common.{TakesSent, Some, AllByRecursion, same_Some, best_of, may_take, IsRising, Item, Kind}
use Rattle.qrules.proofs.Common.{Any, best-at, IsRoster, Member, ReceiveRequest, Event, Trace, Completion, all_more}
use Rattle.qrules.proofs.Common.{Option, SentItem, item_among, items, option_map}
use Rattle.qrules.proofs.Basics.{IsLawful, items_by_now, priority_before}
use Rattle.qrules.proofs.Words.Past.{priority_of_made}
use Rattle.qrules.proofs.Traces.Past.Best.{best_earliest, some_number}
use Rattle.qrules.proofs.Traces.Past.Rising.{takeable_rises}
use Rattle.qrules.proofs.Traces.Properties.BestFirst.{best_first}
use Rattle.qrules.proofs.Traces.Properties.Connections.{IsMadeFor, item_over, takeable_made, takeable_priorities}

-- a Receive may take any item
takes_any : (asked request : ReceiveRequest) (item : Item) → Some asked ≡ Some request → request.kind ≡ Any
    → may_take asked.kind item ≡ true
takes_any asked request item same any =
    ap (λ kind. may_take kind item) (ap (λ (r : ReceiveRequest). r.kind) (same_Some asked request same) ∙ any)

-- the best of rising items isn't later than any other item of its priority
first_of_equals : (kind : Kind) (items : List Item) (x : Item) → IsRising items → best_of kind items ≡ Some x
    → ((w : Item) → may_take kind w ≡ true)
    → AllByRecursion (λ w. w.priority ≡ x.priority → x.number ≤ w.number) items
first_of_equals kind items x rising best may =
    all_more (λ w. may_take kind w ≡ true → w.priority ≡ x.priority → x.number ≤ w.number)
    (λ w. w.priority ≡ x.priority → x.number ≤ w.number) items
    (best_earliest kind items x rising best) (λ w earliest same. earliest (may w) same)

-- item j has this priority before the event
abbrev IsOfPriority : List Member → Trace → Event → ℕ → ℕ → Type 0
IsOfPriority roster past e j p =
    option_map (λ (m : SentItem). m.item.priority) (item_among (items_by_now past (items roster (e ∷ past))) j) ≡ Some p

priority_is : (o : Option SentItem) (p : ℕ) → option_map (λ (m : SentItem). m.item.priority) o ≡ Some p
    → p ≡ priority_of_made o
priority_is o p e = grind arith

-- of the items that could be taken from one channel, none of this connection and priority is earlier
abbrev IsEarliestOn : List Member → Trace → Event → ℕ → ℕ → ℕ → Type 0
IsEarliestOn roster past e j k h =
    AllByRecursion (λ w. connection_of (e ∷ past) w.number ≡ Some k → IsOfPriority roster past e j w.priority
    → j ≤ w.number) (takeable roster past e h)

is_earliest : (roster : List Member) (past : Trace) (e : Event) (y : Completion) (j k : ℕ) → TakesSent (e ∷ past) y j k
    → TakesBest roster past e y j → IsEarliest roster past e j k
is_earliest roster past e y j k sent b h =
    let x = some_number (best_of b.request.kind (takeable roster past e b.request.channel)) j b.best in
    let at : IsMadeFor roster (e ∷ past) b.request.channel x.0 =
    best-at (IsMadeFor roster (e ∷ past) b.request.channel) b.request.kind
    (takeable roster past e b.request.channel) x.0 (takeable_made roster past e b.request.channel) x.1 in
    let from = item_over roster (e ∷ past) x.0.number k (record { item = at.0; channel = b.request.channel }) at.1
    (ap (connection_of (e ∷ past)) x.2 ∙ sent.connection) in
    let priority : priority_before roster past e j ≡ x.0.priority =
    ap (priority_before roster past e) (sym x.2)
    ∙ best-at (λ (w : Item). priority_before roster past e w.number ≡ w.priority) b.request.kind
    (takeable roster past e b.request.channel) x.0 (takeable_priorities roster past e b.request.channel) x.1 in
    elim (cases_eq h b.request.channel) as (λ _. IsEarliestOn roster past e j k h) [
      | inl same ↦
          subst (IsEarliestOn roster past e j k) (sym same)
          (all_more (λ w. w.priority ≡ x.0.priority → x.0.number ≤ w.number)
          (λ w. connection_of (e ∷ past) w.number ≡ Some k → IsOfPriority roster past e j w.priority → j ≤ w.number)
          (takeable roster past e b.request.channel)
          (first_of_equals b.request.kind (takeable roster past e b.request.channel) x.0
          (takeable_rises roster e past b.request.channel) x.1
          (λ w. takes_any b.request sent.request w (sym b.call ∙ sent.call) sent.any))
          (λ w first _ equal. let no_earlier : x.0.number ≤ w.number =
          first (priority_is (item_among (items_by_now past (items roster (e ∷ past))) j) w.priority equal ∙ priority)
          in omega (arith, x.2)))
      | inr other ↦
          all_more (IsMadeFor roster (e ∷ past) h)
          (λ w. connection_of (e ∷ past) w.number ≡ Some k → IsOfPriority roster past e j w.priority → j ≤ w.number)
          (takeable roster past e h) (takeable_made roster past e h)
          (λ w made along _.
          let to = item_over roster (e ∷ past) w.number k (record { item = made.0; channel = h }) made.1 along in
          absurd
          (other (to.channel ∙ ap (λ c. c.channel) (same_Some to.over from.over (sym to.is ∙ from.is))
          ∙ sym from.channel)))
    ]

order_from : (roster : List Member) (past : Trace) → BestFirst roster past → SentOrder roster past
order_from roster [] b = tt
order_from roster (e ∷ past) b = (
  order_from roster past b.0,
  all_more (λ x. (i : ℕ) → number_received x ≡ Some i → TakesBest roster past e x i)
      (λ x. (j k : ℕ) → TakesSent (e ∷ past) x j k → IsEarliest roster past e j k) e.completions b.1
      (λ x takes j k sent. is_earliest roster past e x j k sent (takes j sent.item)),
)

pub sent_order : (roster : List Member) (past : Trace) → IsRoster roster → IsLawful roster past → SentOrder roster past
sent_order roster past r l = order_from roster past (best_first roster past r l)
