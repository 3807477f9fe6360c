-- The verdict as a fold over any list of trials with any test, said without the fold: which of the three it is, and with
-- what tried. A list has one of three courses, and each runs the fold to its own verdict. Assumes nothing.
use Prim.Native.Nat.{ℕ, zero, suc, ◌+◌, ◌-◌, ◌≤◌, ◌<◌}
use mathlib.Core.Path.{◌≡◌, refl, sym, ap, ◌∙◌, subst}
use mathlib.Core.Bool.{Bool, true, false}
use mathlib.Core.Logic.{◌⊎◌, inl, inr, ◌↔◌, ⊎_elim}
use mathlib.Core.List.Memᴰ
use mathlib.Core.List.{List, [], ◌∷◌, ◌++◌, Memᴰ}
use native.Mathlib.Omega.{arith}
use native.Mathlib.Nat.{zero-add, not-suc-le-zero, le_of_suc-le-suc}
use lib.ListN.{length, take, drop, take-append-drop}
use lib.Seq.{take_all}
use Rattle.model.specs.Summary.{Summary}
use Rattle.model.specs.Pattern.{Pattern}
use Rattle.model.specs.Embeddings.{summary_embeddings}
use Rattle.model.specs.Canonical.{covered}
use Rattle.model.specs.Verdict.{Progress, going, failed, halted, step, run, Verdict, included, not_included, stopped, conclude, judge, verdict, tried_of}
use Rattle.model.specs.Calls.{kind_included, kind_not_included, kind_stopped, kind_of}
use Rattle.model.proofs.ListLaws.{not-both}

-- ---- the three courses

-- every trial of the list passes
abbrev pub AllPass : (List ℕ → Bool) → List (List ℕ) → Type 0
AllPass test xs = (x : List ℕ) → Memᴰ x xs → test x ≡ true

-- some trial of the list does not pass
abbrev pub SomeFails : (List ℕ → Bool) → List (List ℕ) → Type 0
SomeFails test xs = (x : List ℕ) × Memᴰ x xs × (test x ≡ false)

-- included: there are at most L and all pass
pub record Included (test : List ℕ → Bool) (L : ℕ) (xs : List (List ℕ)) : Type 0 where
  pub few : length xs ≤ L
  pub pass : AllPass test xs

-- not included: es is the earliest that does not pass, and one of the first L
pub record NotIncluded (test : List ℕ → Bool) (L : ℕ) (xs : List (List ℕ)) (es : List ℕ) : Type 0 where
  pub before : List (List ℕ)
  pub after : List (List ℕ)
  pub split : xs ≡ before ++ es ∷ after
  pub pass : AllPass test before
  pub fails : test es ≡ false
  pub within : length before < L

-- stopped: the first L all pass and there are more
pub record Stopped (test : List ℕ → Bool) (L : ℕ) (xs : List (List ℕ)) : Type 0 where
  pub more : L < length xs
  pub pass : AllPass test (take L xs)

abbrev pub Course : (List ℕ → Bool) → ℕ → List (List ℕ) → Type 0
Course test L xs = Included test L xs ⊎ ((es : List ℕ) × NotIncluded test L xs es) ⊎ Stopped test L xs

pass-none : (test : List ℕ → Bool) → AllPass test []
pass-none test x m = absurd (Memᴰ.not-nil m)

pass-cons : (test : List ℕ → Bool) (x : List ℕ) (xs : List (List ℕ)) → test x ≡ true → AllPass test xs → AllPass test (x ∷ xs)
pass-cons test x xs e h y m = ⊎_elim (λ (p : y ≡ x). ap test p ∙ e) (λ (p : Memᴰ y xs). h y p) (Memᴰ.cases_cons m)

-- a list has one of the three courses
pub course : (test : List ℕ → Bool) (L : ℕ) (xs : List (List ℕ)) → Course test L xs
course test L [] = inl (record { few = omega arith; pass = pass-none test })
course test zero (x ∷ xs) = inr (inr (record { more = omega arith; pass = pass-none test }))
course test (suc L) (x ∷ xs) = go (test x) refl (course test L xs)
  where
    go : (t : Bool) → test x ≡ t → Course test L xs → Course test (suc L) (x ∷ xs)
    go true e (inl c) = inl (record { few = omega arith; pass = pass-cons test x xs e c.pass })
    go true e (inr (inl c)) =
        inr (inl (
          c.0,
          record {
            before = x ∷ c.1.before;
            after = c.1.after;
            split = ap {B = List (List ℕ)} (λ l. x ∷ l) c.1.split;
            pass = pass-cons test x c.1.before e c.1.pass;
            fails = c.1.fails;
            within = omega (arith, c.1.within);
          },
        ))
    go true e (inr (inr c)) = inr (inr (record { more = omega arith; pass = pass-cons test x (take L xs) e c.pass }))
    go false e c = inr (inl (x, record { before = []; after = xs; split = refl; pass = pass-none test; fails = e; within = omega arith }))

-- ---- the fold

pub run-append : (test : List ℕ → Bool) (s : Progress) (xs ys : List (List ℕ)) → run test s (xs ++ ys) ≡ run test (run test s xs) ys
unfolding run
run-append test s [] ys = refl
run-append test s (x ∷ xs) ys = run-append test (step test s x) xs ys

-- a verdict once known stays
pub run-failed : (test : List ℕ → Bool) (n : ℕ) (es : List ℕ) (xs : List (List ℕ)) → run test (failed n es) xs ≡ failed n es
unfolding run step
run-failed test n es [] = refl
run-failed test n es (x ∷ xs) = run-failed test n es xs

pub run-halted : (test : List ℕ → Bool) (n : ℕ) (xs : List (List ℕ)) → run test (halted n) xs ≡ halted n
unfolding run step
run-halted test n [] = refl
run-halted test n (x ∷ xs) = run-halted test n xs

pub step-pass : (test : List ℕ → Bool) (left tried : ℕ) (x : List ℕ) → test x ≡ true → step test (going (suc left) tried) x ≡ going left (suc tried)
unfolding step
step-pass test left tried x e = rw (e, step)

pub step-fail : (test : List ℕ → Bool) (left tried : ℕ) (x : List ℕ) → test x ≡ false → step test (going (suc left) tried) x ≡ failed (suc tried) x
unfolding step
step-fail test left tried x e = rw (e, step)

-- trials that pass are counted, and leave so many fewer to try
pub run-pass : (test : List ℕ → Bool) (left tried m : ℕ) (ys : List (List ℕ)) → AllPass test ys → left ≡ length ys + m → run test (going left tried) ys ≡ going m (tried + length ys)
unfolding run
run-pass test left tried m [] h k =
    let e : left ≡ m = omega arith in
    let f : tried ≡ tried + 0 = omega arith in
    λ i. going (e i) (f i)
run-pass test zero tried m (y ∷ ys) h k = absurd (omega arith)
run-pass test (suc left) tried m (y ∷ ys) h k =
    ap (λ (s : Progress). run test s ys) (step-pass test left tried y (h y (Memᴰ.head refl)))
    ∙ run-pass test left (suc tried) m ys (λ x n. h x (Memᴰ.tail n)) (omega arith) ∙ ap (going m) (omega arith)

-- past the limit the trials stop, where there are more
pub run-stop : (test : List ℕ → Bool) (left tried : ℕ) (xs : List (List ℕ)) → AllPass test (take left xs) → left < length xs → run test (going left tried) xs ≡ halted (tried + left)
unfolding run step
run-stop test left tried [] h k = absurd (omega arith)
run-stop test zero tried (x ∷ xs) h k = run-halted test tried xs ∙ ap halted (omega arith)
run-stop test (suc left) tried (x ∷ xs) h k =
    ap (λ (s : Progress). run test s xs) (step-pass test left tried x (h x (Memᴰ.head refl)))
    ∙ run-stop test left (suc tried) xs (λ y n. h y (Memᴰ.tail n)) (omega arith) ∙ ap halted (omega arith)

-- the earliest that does not pass ends the trials
pub run-fail : (test : List ℕ → Bool) (left tried : ℕ) (ys zs : List (List ℕ)) (es : List ℕ) → AllPass test ys → test es ≡ false → length ys < left
    → run test (going left tried) (ys ++ es ∷ zs) ≡ failed (suc (tried + length ys)) es
unfolding run
run-fail test left tried ys zs es h e k =
    let m : ℕ = left - suc (length ys) in
    run-append test (going left tried) ys (es ∷ zs)
    ∙ ap (λ (s : Progress). run test s (es ∷ zs)) (run-pass test left tried (suc m) ys h (omega arith))
    ∙ ap (λ (s : Progress). run test s zs) (step-fail test m (tried + length ys) es e) ∙ run-failed test (suc (tried + length ys)) es zs

-- ---- from the course to the verdict

-- there are at most L and all pass: included, tried is how many there are
pub included-judge : (test : List ℕ → Bool) (L : ℕ) (xs : List (List ℕ)) → Included test L xs → judge test L xs ≡ included (length xs)
unfolding judge conclude
included-judge test L xs c =
    let few : length xs ≤ L = c.few in
    ap conclude (run-pass test L 0 (L - length xs) xs c.pass (omega arith)) ∙ ap included (zero-add (length xs))

-- es is the earliest that does not pass, and one of the first L: not included, es is shown, tried is its rank from 1
pub not-included-judge : (test : List ℕ → Bool) (L : ℕ) (xs : List (List ℕ)) (es : List ℕ) (c : NotIncluded test L xs es) → judge test L xs ≡ not_included (suc (length c.before)) es
unfolding judge conclude
not-included-judge test L xs es c =
    ap (λ (l : List (List ℕ)). judge test L l) c.split
    ∙ ap conclude (run-fail test L 0 c.before c.after es c.pass c.fails c.within)
    ∙ ap (λ (m : ℕ). not_included (suc m) es) (zero-add (length c.before))

-- the first L all pass and there are more: stopped, tried is L
pub stopped-judge : (test : List ℕ → Bool) (L : ℕ) (xs : List (List ℕ)) → Stopped test L xs → judge test L xs ≡ stopped L
unfolding judge conclude
stopped-judge test L xs c = ap conclude (run-stop test L 0 xs c.pass c.more) ∙ ap stopped (zero-add L)

-- ---- from the verdict to the course

abbrev pub IsIncluded : Verdict → Type 0
IsIncluded v = (n : ℕ) × (v ≡ included n)

abbrev pub IsNotIncluded : Verdict → Type 0
IsNotIncluded v = (n : ℕ) × (es : List ℕ) × (v ≡ not_included n es)

abbrev pub IsStopped : Verdict → Type 0
IsStopped v = (n : ℕ) × (v ≡ stopped n)

-- the three exclude each other
pub included-or-not : (v : Verdict) → IsIncluded v → IsNotIncluded v → ⊥
unfolding kind_of
included-or-not v c d =
    let e : kind_included ≡ kind_not_included = ap kind_of (sym c.1 ∙ d.2) in
    omega arith

pub included-or-stopped : (v : Verdict) → IsIncluded v → IsStopped v → ⊥
unfolding kind_of
included-or-stopped v c d =
    let e : kind_included ≡ kind_stopped = ap kind_of (sym c.1 ∙ d.1) in
    omega arith

pub not-or-stopped : (v : Verdict) → IsNotIncluded v → IsStopped v → ⊥
unfolding kind_of
not-or-stopped v c d =
    let e : kind_not_included ≡ kind_stopped = ap kind_of (sym c.2 ∙ d.1) in
    omega arith

module _ (test : List ℕ → Bool) (L : ℕ) (xs : List (List ℕ)) where
  has-included : Included test L xs → IsIncluded (judge test L xs)
  has-included c = (length xs, included-judge test L xs c)

  has-not : (es : List ℕ) → NotIncluded test L xs es → IsNotIncluded (judge test L xs)
  has-not es c = (suc (length c.before), es, not-included-judge test L xs es c)

  has-stopped : Stopped test L xs → IsStopped (judge test L xs)
  has-stopped c = (L, stopped-judge test L xs c)

  -- included: there are at most L, all pass, and tried is how many there are
  pub judge-included : (n : ℕ) → judge test L xs ≡ included n → (n ≡ length xs) × Included test L xs
  judge-included n e = go (course test L xs)
    where
      go : Course test L xs → (n ≡ length xs) × Included test L xs
      go (inl c) = (cc (e, included-judge test L xs c), c)
      go (inr (inl c)) = absurd (included-or-not (judge test L xs) (n, e) (has-not c.0 c.1))
      go (inr (inr c)) = absurd (included-or-stopped (judge test L xs) (n, e) (has-stopped c))

  -- not included: the one shown is the earliest that does not pass, and tried is its rank from 1
  pub judge-not-included : (n : ℕ) (es : List ℕ) → judge test L xs ≡ not_included n es → (c : NotIncluded test L xs es) × (n ≡ suc (length c.before))
  judge-not-included n es e = go (course test L xs)
    where
      at : (fs : List ℕ) (c : NotIncluded test L xs fs) → not_included (suc (length c.before)) fs ≡ not_included n es → (d : NotIncluded test L xs es) × (n ≡ suc (length d.before))
      at fs c q =
          let p : fs ≡ es = cc q in (
            record {
              before = c.before;
              after = c.after;
              split = c.split ∙ ap (λ (x : List ℕ). c.before ++ x ∷ c.after) p;
              pass = c.pass;
              fails = ap test (sym p) ∙ c.fails;
              within = c.within;
            },
            cc q,
          )

      go : Course test L xs → (c : NotIncluded test L xs es) × (n ≡ suc (length c.before))
      go (inl c) = absurd (included-or-not (judge test L xs) (has-included c) (n, es, e))
      go (inr (inl c)) = at c.0 c.1 (sym (not-included-judge test L xs c.0 c.1) ∙ e)
      go (inr (inr c)) = absurd (not-or-stopped (judge test L xs) (n, es, e) (has-stopped c))

  -- stopped: the first L all pass, there are more, and tried is L
  pub judge-stopped : (n : ℕ) → judge test L xs ≡ stopped n → (n ≡ L) × Stopped test L xs
  judge-stopped n e = go (course test L xs)
    where
      go : Course test L xs → (n ≡ L) × Stopped test L xs
      go (inl c) = absurd (included-or-stopped (judge test L xs) (has-included c) (n, e))
      go (inr (inl c)) = absurd (not-or-stopped (judge test L xs) (has-not c.0 c.1) (n, e))
      go (inr (inr c)) = (cc (e, stopped-judge test L xs c), c)

-- a trial that fails with a limit fails with any larger one
pub run-longer : (test : List ℕ → Bool) (L M : ℕ) (xs : List (List ℕ)) (n : ℕ) (es : List ℕ) → L ≤ M → run test (going L 0) xs ≡ failed n es → run test (going M 0) xs ≡ failed n es
unfolding judge conclude
run-longer test L M xs n es h e =
    let c = judge-not-included test L xs n es (ap conclude e) in
    ap (run test (going M 0)) c.0.split
    ∙ run-fail test M 0 c.0.before c.0.after es c.0.pass c.0.fails (omega (arith, c.0.within))
    ∙ ap (λ (m : ℕ). failed (suc m) es) (zero-add (length c.0.before)) ∙ ap (λ (m : ℕ). failed m es) (sym c.1)

-- ---- which verdict it is

-- an element with fewer than L before it is one of the first L
mem-take : (L : ℕ) (ys zs : List (List ℕ)) (x : List ℕ) → length ys < L → Memᴰ x (take L (ys ++ x ∷ zs))
mem-take zero ys zs x h = absurd (not-suc-le-zero h)
mem-take (suc L) [] zs x h = Memᴰ.head refl
mem-take (suc L) (y ∷ ys) zs x h = Memᴰ.tail (mem-take L ys zs x (le_of_suc-le-suc h))

pub take-mem : (L : ℕ) (xs : List (List ℕ)) (x : List ℕ) → Memᴰ x (take L xs) → Memᴰ x xs
take-mem L xs x m = subst (λ (l : List (List ℕ)). Memᴰ x l) (take-append-drop L xs) (Memᴰ.append_left (drop L xs) m)

all-or-fails : (test : List ℕ → Bool) (xs : List (List ℕ)) → AllPass test xs → SomeFails test xs → ⊥
all-or-fails test xs h f = not-both (test f.0) (h f.0 f.1) f.2

module _ (test : List ℕ → Bool) (L : ℕ) (xs : List (List ℕ)) where
  pub included-iff : IsIncluded (judge test L xs) ↔ Included test L xs
  included-iff = (λ v. (judge-included test L xs v.0 v.1).1, has-included test L xs)

  -- one of the first L does not pass
  pub not-included-iff : IsNotIncluded (judge test L xs) ↔ SomeFails test (take L xs)
  not-included-iff = (λ v. out v.1 (judge-not-included test L xs v.0 v.1 v.2).0, λ f. into f (course test L xs))
    where
      out : (es : List ℕ) → NotIncluded test L xs es → SomeFails test (take L xs)
      out es c = (es, subst (λ (l : List (List ℕ)). Memᴰ es (take L l)) (sym c.split) (mem-take L c.before c.after es c.within), c.fails)

      into : SomeFails test (take L xs) → Course test L xs → IsNotIncluded (judge test L xs)
      into f (inl c) = absurd (all-or-fails test xs c.pass (f.0, take-mem L xs f.0 f.1, f.2))
      into f (inr (inl c)) = has-not test L xs c.0 c.1
      into f (inr (inr c)) = absurd (all-or-fails test (take L xs) c.pass f)

  pub stopped-iff : IsStopped (judge test L xs) ↔ Stopped test L xs
  stopped-iff = (λ v. (judge-stopped test L xs v.0 v.1).1, has-stopped test L xs)

  -- at most L trials: included if all pass, not included if one does not, never stopped
  pub few-included : length xs ≤ L → IsIncluded (judge test L xs) ↔ AllPass test xs
  few-included k = (λ v. (included-iff.0 v).pass, λ h. included-iff.1 (record { few = k; pass = h }))

  pub few-not-included : length xs ≤ L → IsNotIncluded (judge test L xs) ↔ SomeFails test xs
  few-not-included k = subst (λ (l : List (List ℕ)). IsNotIncluded (judge test L xs) ↔ SomeFails test l) (take_all L xs k) not-included-iff

  -- more than L trials: stopped if the first L pass, not included (by `not-included-iff`) if one of these does not, never
  -- included
  pub more-stopped : L < length xs → IsStopped (judge test L xs) ↔ AllPass test (take L xs)
  more-stopped k = (λ v. (stopped-iff.0 v).pass, λ h. stopped-iff.1 (record { more = k; pass = h }))

  pub more-never-included : L < length xs → IsIncluded (judge test L xs) → ⊥
  more-never-included k v = let few : length xs ≤ L = (included-iff.0 v).few in omega arith

-- ---- tried

-- tried is at most the limit
pub tried-limit : (test : List ℕ → Bool) (L : ℕ) (xs : List (List ℕ)) → tried_of (judge test L xs) ≤ L
unfolding tried_of
tried-limit test L xs = go (course test L xs)
  where
    go : Course test L xs → tried_of (judge test L xs) ≤ L
    go (inl c) =
        let e : tried_of (judge test L xs) ≡ length xs = ap tried_of (included-judge test L xs c) in
        let few : length xs ≤ L = c.few in
        omega arith
    go (inr (inl c)) =
        let e : tried_of (judge test L xs) ≡ suc (length c.1.before) = ap tried_of (not-included-judge test L xs c.0 c.1) in
        let k : length c.1.before < L = c.1.within in
        omega arith
    go (inr (inr c)) =
        let e : tried_of (judge test L xs) ≡ L = ap tried_of (stopped-judge test L xs c) in
        omega arith

-- ---- another test

step-agree : (f g : List ℕ → Bool) (s : Progress) (x : List ℕ) → f x ≡ g x → step f s x ≡ step g s x
unfolding step
step-agree f g (going zero tried) x e = refl
step-agree f g (going (suc left) tried) x e = ap (λ (t : Bool). elim t as (λ _. Progress) [ true ↦ going left (suc tried) | false ↦ failed (suc tried) x ]) e
step-agree f g (failed n es) x e = refl
step-agree f g (halted n) x e = refl

pub run_agree : (f g : List ℕ → Bool) (s : Progress) (xs : List (List ℕ)) → ((x : List ℕ) → Memᴰ x xs → f x ≡ g x) → run f s xs ≡ run g s xs
unfolding run
run_agree f g s [] h = refl
run_agree f g s (x ∷ xs) h =
    run_agree f g (step f s x) xs (λ y m. h y (Memᴰ.tail m)) ∙ ap (λ (p : Progress). run g p xs) (step-agree f g s x (h x (Memᴰ.head refl)))

-- tests that agree give one verdict
pub judge-agree : (f g : List ℕ → Bool) (L : ℕ) (xs : List (List ℕ)) → ((x : List ℕ) → Memᴰ x xs → f x ≡ g x) → judge f L xs ≡ judge g L xs
unfolding judge
judge-agree f g L xs h = ap conclude (run_agree f g (going L 0) xs h)

-- ---- the verdict of a case

-- the verdict is this fold over the placements, by the test whether a placement's trial passes
pub verdict-judge : (S : Summary) (P : Pattern) (Qs : List Pattern) (L : ℕ) → verdict S P Qs L ≡ judge (covered S P Qs) L (summary_embeddings S P)
unfolding verdict
verdict-judge S P Qs L = refl

pub verdict-tried : (S : Summary) (P : Pattern) (Qs : List Pattern) (L : ℕ) → tried_of (verdict S P Qs L) ≤ L
unfolding verdict
verdict-tried S P Qs L = tried-limit (covered S P Qs) L (summary_embeddings S P)

-- the placement that "not included" shows is one of them, and its trial does not pass
pub verdict-shown : (S : Summary) (P : Pattern) (Qs : List Pattern) (L n : ℕ) (es : List ℕ) → verdict S P Qs L ≡ not_included n es → Memᴰ es (summary_embeddings S P) × (covered S P Qs es ≡ false)
verdict-shown S P Qs L n es e =
    let k = judge-not-included (covered S P Qs) L (summary_embeddings S P) n es (sym (verdict-judge S P Qs L) ∙ e) in
    (subst (λ (l : List (List ℕ)). Memᴰ es l) (sym k.0.split) (Memᴰ.append_right k.0.before (Memᴰ.head refl)), k.0.fails)
