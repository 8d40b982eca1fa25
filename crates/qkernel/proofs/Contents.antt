-- Blocked threads are threads of the kernel.
use Rattle.qkernel.proofs.Common.{◌≡◌, ℕ, List, [], ◌∷◌, refl, sym, cond, true, false, eqb, is_some, ◌||◌, true≢false}
use Rattle.qkernel.proofs.Common.{is_among, threads_of, open_in, members_of, Thread}
