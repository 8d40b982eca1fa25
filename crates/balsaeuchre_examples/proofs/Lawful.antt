-- The runs that are written out are valid histories, and had memory.
use Rattle.balsaeuchre_examples.proofs.Common.{HadMemory, IsLawful, List, [], followed_by, inl, inr, refl, ℕ}
use Rattle.qbase.specs.declared.errno.Errno.TheVariants.{Srch, Down}
use Rattle.balsaeuchre_examples.specs.FirstMessage as first
use Rattle.balsaeuchre_examples.specs.ThreeThreads as three
use Rattle.balsaeuchre_examples.specs.ShutDown as shut
use Rattle.balsaeuchre_examples.specs.Timeout as timeout
use Rattle.balsaeuchre_examples.specs.Carried as carried

pub first_lawful : (message answer : List ℕ) → IsLawful first.roster (followed_by [] (first.events message answer))
first_lawful message answer = (
  (
    (
      (
        (tt, (search, inl (record { no_refusal = refl; by_row = refl }))),
        (search, inl (record { no_refusal = refl; by_row = refl })),
      ),
      (search, inl (record { no_refusal = refl; by_row = refl })),
    ),
    (search, inl (record { no_refusal = refl; by_row = refl })),
  ),
  (search, inl (record { no_refusal = refl; by_row = refl })),
)

pub first_memory : (message answer : List ℕ) → HadMemory (first.events message answer)
first_memory message answer = ((λ h. cc, tt), ((λ h. cc, tt), (tt, ((λ h. cc, tt), ((λ h. cc, (λ h. cc, tt)), tt)))))

pub shut_down_lawful : IsLawful three.roster (followed_by [] shut.events)
shut_down_lawful = (
  (
    (
      (
        (
          (
            (
              (
                (
                  (tt, (search, inl (record { no_refusal = refl; by_row = refl }))),
                  (search, inl (record { no_refusal = refl; by_row = refl })),
                ),
                (search, inl (record { no_refusal = refl; by_row = refl })),
              ),
              (
                search,
                inl (record { no_refusal = refl; by_row = refl }),
              ),
            ),
            (search, inl (record { no_refusal = refl; by_row = refl })),
          ),
          (search, inl (record { no_refusal = refl; by_row = refl })),
        ),
        (search, inl (record { no_refusal = refl; by_row = refl })),
      ),
      (search, inl (record { no_refusal = refl; by_row = refl })),
    ),
    (search, inl (record { no_refusal = refl; by_row = refl })),
  ),
  (search, inr (record { error = Down; cause = inl refl; only = refl })),
)

pub shut_down_memory : HadMemory shut.events
shut_down_memory = (
  (λ h. cc, tt),
  (
    (λ h. cc, tt),
    (
      tt,
      (
        (λ h. cc, tt),
        (
          tt,
          (
            (λ h. cc, (λ h. cc, tt)),
            ((λ h. cc, (λ h. cc, tt)), ((λ h. cc, tt), ((λ h. cc, tt), ((λ h. cc, tt), tt)))),
          ),
        ),
      ),
    ),
  ),
)

pub cut_lawful : IsLawful three.roster (followed_by [] timeout.cut_events)
cut_lawful = (
  (
    (
      (
        (
          (tt, (search, inl (record { no_refusal = refl; by_row = refl }))),
          (search, inl (record { no_refusal = refl; by_row = refl })),
        ),
        (search, inl (record { no_refusal = refl; by_row = refl })),
      ),
      (
        search,
        inl (record { no_refusal = refl; by_row = refl }),
      ),
    ),
    (search, inl (record { no_refusal = refl; by_row = refl })),
  ),
  (search, inr (record { error = Srch; cause = inl refl; only = refl })),
)

pub cut_memory : HadMemory timeout.cut_events
cut_memory = ((λ h. cc, tt), ((λ h. cc, tt), (tt, ((λ h. cc, tt), ((λ h. cc, (λ h. cc, tt)), ((λ h. cc, tt), tt))))))

pub told_lawful : IsLawful three.roster (followed_by [] timeout.told_events)
told_lawful = (
  (
    (
      (
        (
          (
            (tt, (search, inl (record { no_refusal = refl; by_row = refl }))),
            (search, inl (record { no_refusal = refl; by_row = refl })),
          ),
          (search, inl (record { no_refusal = refl; by_row = refl })),
        ),
        (search, inl (record { no_refusal = refl; by_row = refl })),
      ),
      (search, inl (record { no_refusal = refl; by_row = refl })),
    ),
    (search, inl (record { no_refusal = refl; by_row = refl })),
  ),
  (search, inl (record { no_refusal = refl; by_row = refl })),
)

pub told_memory : HadMemory timeout.told_events
told_memory = (
  (λ h. cc, tt),
  (
    (λ h. cc, tt),
    (tt, ((λ h. cc, tt), ((λ h. cc, tt), ((λ h. cc, tt), ((λ h. cc, (λ h. cc, tt)), tt))))),
  ),
)

pub carried_lawful : IsLawful carried.roster (followed_by [] carried.events)
carried_lawful = (
  (
    (
      (
        (
          (
            (
              (
                (
                  (
                    (
                      (
                        (tt, (search, inl (record { no_refusal = refl; by_row = refl }))),
                        (search, inl (record { no_refusal = refl; by_row = refl })),
                      ),
                      (search, inl (record { no_refusal = refl; by_row = refl })),
                    ),
                    (search, inl (record { no_refusal = refl; by_row = refl })),
                  ),
                  (search, inl (record { no_refusal = refl; by_row = refl })),
                ),
                (search, inl (record { no_refusal = refl; by_row = refl })),
              ),
              (search, inl (record { no_refusal = refl; by_row = refl })),
            ),
            (search, inl (record { no_refusal = refl; by_row = refl })),
          ),
          (search, inl (record { no_refusal = refl; by_row = refl })),
        ),
        (search, inl (record { no_refusal = refl; by_row = refl })),
      ),
      (search, inl (record { no_refusal = refl; by_row = refl })),
    ),
    (search, inl (record { no_refusal = refl; by_row = refl })),
  ),
  (search, inl (record { no_refusal = refl; by_row = refl })),
)

pub carried_memory : HadMemory carried.events
carried_memory = (
  (λ h. cc, tt),
  (
    (λ h. cc, tt),
    (
      (λ h. cc, tt),
      (
        (λ h. cc, tt),
        (
          (λ h. cc, tt),
          (
            tt,
            (
              tt,
              (
                (λ h. cc, tt),
                (tt, ((λ h. cc, tt), ((λ h. cc, tt), ((λ h. cc, (λ h. cc, tt)), ((λ h. cc, (λ h. cc, tt)), tt))))),
              ),
            ),
          ),
        ),
      ),
    ),
  ),
)
