-- The value under the lock, before the first call.
use Rattle.qshared.proofs.Common.{◌≡◌, ℕ, ◌≤◌, List, [], length, get_or, refl, ap, sym, subst, ◌∙◌, arith, replicate}
use Rattle.qshared.proofs.Common.{length-map, IsRoster, Member, Completion, members_of, MatchesAt, State, IsSound}
use Rattle.qshared.proofs.Common.{CellView, idle_line, seated_kernel_view, true≢false, AreLater, IsUnderLock}
use Rattle.qshared.proofs.Common.{blocked_same, properties_of}
use Rattle.qrules.proofs.Words.Facts.{threads_of}

same_replicate : {A : Type 0} (n i : ℕ) (x : A) → get_or (replicate n x) i x ≡ x
same_replicate Prim.Native.Nat.zero i x = refl
same_replicate (Prim.Native.Nat.suc n) Prim.Native.Nat.zero x = refl
same_replicate (Prim.Native.Nat.suc n) (Prim.Native.Nat.suc i) x = same_replicate n i x

pub held_first : (roster : List Member) (slots : ℕ) (kernel : State) (threads : List ℕ) → IsSound kernel
    → members_of kernel.threads ≡ roster → MatchesAt (members_of kernel.threads) kernel []
    → threads ≡ threads_of (members_of kernel.threads) → length threads ≡ slots
    → IsUnderLock roster slots kernel (seated_kernel_view slots slots) threads []
held_first roster slots kernel threads sound same matches threads_are many =
    let rises : IsRoster (members_of kernel.threads) = sound.roster in
    let few : length kernel.threads ≤ 64 = sound.few in
    let short : length (members_of kernel.threads) ≡ length kernel.threads =
    length-map kernel.threads (λ x. x.member) in
    let whole : length threads ≡ length (threads_of (members_of kernel.threads)) = ap length threads_are in
    let rises' : IsRoster roster = subst IsRoster same rises in
    let matches' : MatchesAt roster kernel [] = subst (λ r. MatchesAt r kernel []) same matches in
    let long : length (threads_of (members_of kernel.threads)) ≡ length (members_of kernel.threads) =
    length-map (members_of kernel.threads) (λ m. m.thread) in
    record {
      rises = rises';
      sized = ap length (sym same) ∙ sym long ∙ ap length (sym threads_are) ∙ many;
      few = omega (arith, few, short, long, whole, many);
      threads_are = threads_are ∙ ap threads_of same;
      told = record {
        lawful = tt;
        properties = properties_of roster [] tt rises';
        matches = matches';
        tied =
            λ t i is. (
              ap (λ (l : CellView Completion). l.put) (same_replicate slots i idle_line),
              ap (λ (l : CellView Completion). l.opened) (same_replicate slots i idle_line)
                  ∙ sym (blocked_same roster [] tt t),
            );
        owed =
            λ t i is. record {
              later = subst (λ b. AreLater b [] []) (sym (blocked_same roster [] tt t)) (
                refl,
                λ w. absurd (true≢false (sym w)),
              );
              whole = refl;
            };
      };
      numbered = omega arith;
    }
