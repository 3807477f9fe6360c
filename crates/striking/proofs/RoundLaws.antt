-- A round, leaf by leaf: each node has its turn, and the round over all of them is what was tried so far and the round over those that are
-- left. Assumes nothing.
use Prim.Native.Nat.{ℕ, suc, ◌+◌, ◌-◌, ◌*◌, ◌≤◌, ◌<◌}
use mathlib.Core.Path.{◌≡◌, refl, sym, ap, ◌∙◌, subst}
use mathlib.Core.Bool.{true, false}
use mathlib.Core.Logic.{◌⊎◌, inl, inr}
use mathlib.Core.Option.{none}
use Rattle.std.specs.Prelude.{Some, None}
use mathlib.Core.List.{[], ◌∷◌}
use native.Mathlib.Omega.{arith}
use native.Mathlib.Numerals.{add-one}
use lib.ListN.{length}
use Rattle.model.specs.Limits.{max_limit, max_pattern}
use Rattle.model.specs.Lists.{up_from, keep, total}
use Rattle.model.specs.Summary.{Summary}
use Rattle.model.specs.Pattern.{Pattern}
use Rattle.model.specs.Verdict.{Verdict, included, not_included, stopped, tried_of}
use Rattle.model.specs.Striking as model
use Rattle.model.proofs.KeepLaws.{keep-in, keep_out}
use Rattle.model.proofs.Verdict.{verdict-tried}
use Rattle.containment.specs.Answer.{answer_of}
use Rattle.containment.specs.declared.Containment.{Containment}
use Rattle.containment.specs.declared.Containment.TheVariants.{Contained, NotContained, Stopped}
use Rattle.striking.specs.Rounds.{leaf_of, round_of}

-- the most that a round tries: 16 verdicts, each within the largest limit
abbrev pub most_tried : ℕ
most_tried = 16_000_000

-- how many a verdict tried, as the code answers it
abbrev pub tried_by : Containment → ℕ
tried_by (Contained n) = n
tried_by (NotContained n) = n
tried_by (Stopped n) = n

same-tried : (v : Verdict) → tried_by (answer_of v) ≡ tried_of v
unfolding tried_of
same-tried (included n) = refl
same-tried (not_included n es) = refl
same-tried (stopped n) = refl

module _ (S : Summary) (L : ℕ) (P : Pattern) where
  abbrev verdict_on : ℕ → Verdict
  verdict_on q = model.verdict_without S L P q

  -- the round over all nodes, and over those from q on
  abbrev whole : model.Round
  whole = model.round verdict_on (model.may_go_of P)

  abbrev rest : ℕ → model.Round
  rest q = model.round verdict_on (keep (model.may_go P) (up_from q (length P - q)))

  -- ---- node q

  ahead : (q : ℕ) → q < length P → up_from q (length P - q) ≡ q ∷ up_from (suc q) (length P - suc q)
  unfolding up_from
  ahead q h = let e : length P - q ≡ suc (length P - suc q) = omega arith in ap (up_from q) e

  passed_over : (q : ℕ) → q < length P → model.may_go P q ≡ false → rest q ≡ rest (suc q)
  passed_over q h e = ap (model.round verdict_on) (ap (keep (model.may_go P)) (ahead q h) ∙ keep_out (model.may_go P) q (up_from (suc q) (length P - suc q)) e)

  had-turn : (q : ℕ) → q < length P → model.may_go P q ≡ true → rest q ≡ model.judged q (verdict_on q) (rest (suc q))
  unfolding model.round
  had-turn q h e = ap (model.round verdict_on) (ap (keep (model.may_go P)) (ahead q h) ∙ keep-in (model.may_go P) q (up_from (suc q) (length P - suc q)) e)

  few-tried : (q : ℕ) → tried_of (verdict_on q) ≤ L
  few-tried q = verdict-tried S (model.without P q) (P ∷ []) L

  -- ---- the loop

  -- before the turn of node q
  pub record Going (q tried : ℕ) : Type 0 where
    pub turn : q ≤ length P
    pub leaf : leaf_of whole.struck ≡ leaf_of (rest q).struck
    pub sum : total whole.tried ≡ tried + total (rest q).tried
    pub few : tried ≤ q * 1_000_000

  pub going_start : Going 0 0
  going_start =
      let z : length P - 0 ≡ length P = omega arith in
      let same : rest 0 ≡ whole = ap (λ (n : ℕ). model.round verdict_on (keep (model.may_go P) (up_from 0 n))) z in
      let t : total (rest 0).tried ≡ total whole.tried = ap (λ (x : model.Round). total x.tried) same in
      record { turn = omega arith; leaf = sym (ap (λ (x : model.Round). leaf_of x.struck) same); sum = omega arith; few = omega arith }

  module _ {q tried : ℕ} (g : Going q tried) (low : L ≤ max_limit) (size : length P ≤ max_pattern) (h : q < length P) where
    going_next : {n : ℕ} → n ≤ L → rest q ≡ record { struck = (rest (suc q)).struck; tried = n ∷ (rest (suc q)).tried } → Going (q + 1) (tried + n)
    going_next {n} a r =
        let b = g.few in
        let c = g.sum in
        let d : total (rest q).tried ≡ n + total (rest (suc q)).tried = ap (λ (x : model.Round). total x.tried) r in
        let next : suc q ≡ q + 1 = sym (add-one q) in
        subst (λ (j : ℕ). Going j (tried + n)) next
        (record { turn = omega arith; leaf = g.leaf ∙ ap (λ (x : model.Round). leaf_of x.struck) r; sum = omega arith; few = omega arith })

    -- a node that may not go is passed over
    pub going_over : model.may_go P q ≡ false → Going (q + 1) tried
    going_over e =
        let r : rest q ≡ rest (suc q) = passed_over q h e in
        let b = g.few in
        let c = g.sum in
        let d : total (rest q).tried ≡ total (rest (suc q)).tried = ap (λ (x : model.Round). total x.tried) r in
        let next : suc q ≡ q + 1 = sym (add-one q) in
        subst (λ (j : ℕ). Going j tried) next
        (record { turn = omega arith; leaf = g.leaf ∙ ap (λ (x : model.Round). leaf_of x.struck) r; sum = omega arith; few = omega arith })

    -- one that may go has its verdict
    module _ (may : model.may_go P q ≡ true) {r : Containment} (e : r ≡ answer_of (verdict_on q)) where
      turn_by : {v : Verdict} → verdict_on q ≡ v → rest q ≡ model.judged q v (rest (suc q))
      turn_by f = had-turn q h may ∙ ap (λ (v : Verdict). model.judged q v (rest (suc q))) f

      limited : {v : Verdict} → verdict_on q ≡ v → tried_of v ≤ L
      limited f = subst (λ (v : Verdict). tried_of v ≤ L) f (few-tried q)

      -- kept by it
      pub going_on : {n : ℕ} → (r ≡ NotContained n) ⊎ (r ≡ Stopped n) → Going (q + 1) (tried + n)
      unfolding model.judged tried_of
      going_on {n} s = go (verdict_on q) refl s
        where
          go : (v : Verdict) → verdict_on q ≡ v → (r ≡ NotContained n) ⊎ (r ≡ Stopped n) → Going (q + 1) (tried + n)
          go (included m) f (inl t) = absurd (let z : Contained m ≡ NotContained n = sym (e ∙ ap answer_of f) ∙ t in cc z)
          go (included m) f (inr t) = absurd (let z : Contained m ≡ Stopped n = sym (e ∙ ap answer_of f) ∙ t in cc z)
          go (not_included m es) f (inl t) =
              let z : NotContained m ≡ NotContained n = sym (e ∙ ap answer_of f) ∙ t in
              let same : m ≡ n = cc z in
              subst (λ (x : ℕ). Going (q + 1) (tried + x)) same (going_next (limited f) (turn_by f))
          go (not_included m es) f (inr t) = absurd (let z : NotContained m ≡ Stopped n = sym (e ∙ ap answer_of f) ∙ t in cc z)
          go (stopped m) f (inl t) = absurd (let z : Stopped m ≡ NotContained n = sym (e ∙ ap answer_of f) ∙ t in cc z)
          go (stopped m) f (inr t) =
              let z : Stopped m ≡ Stopped n = sym (e ∙ ap answer_of f) ∙ t in
              let same : m ≡ n = cc z in
              subst (λ (x : ℕ). Going (q + 1) (tried + x)) same (going_next (limited f) (turn_by f))

      -- struck by it: the round ends
      pub going-struck : {n : ℕ} → r ≡ Contained n → record { leaf = Some q; tried = tried + n } ≡ round_of S L P
      unfolding model.judged
      going-struck {n} t = go (verdict_on q) refl
        where
          go : (v : Verdict) → verdict_on q ≡ v → record { leaf = Some q; tried = tried + n } ≡ round_of S L P
          go (included m) f =
              let z : Contained m ≡ Contained n = sym (e ∙ ap answer_of f) ∙ t in
              let same : m ≡ n = cc z in
              let c = g.sum in
              let d : total (rest q).tried ≡ m + 0 = ap (λ (x : model.Round). total x.tried) (turn_by f) in
              let l : Some q ≡ leaf_of whole.struck = sym (g.leaf ∙ ap (λ (x : model.Round). leaf_of x.struck) (turn_by f)) in
              let k : tried + n ≡ total whole.tried = omega arith in
              λ i. record { leaf = l i; tried = k i }
          go (not_included m es) f = absurd (let z : NotContained m ≡ Contained n = sym (e ∙ ap answer_of f) ∙ t in cc z)
          go (stopped m) f = absurd (let z : Stopped m ≡ Contained n = sym (e ∙ ap answer_of f) ∙ t in cc z)

      -- what it tried fits
      pub turn-few : {n : ℕ} → tried_by r ≡ n → tried + n ≤ most_tried
      unfolding tried_of
      turn-few {n} t =
          let b = g.few in
          let a = few-tried q in
          let c : n ≡ tried_of (verdict_on q) = sym t ∙ ap tried_by e ∙ same-tried (verdict_on q) in
          omega arith

  pub going-none : {q tried : ℕ} → Going q tried → length P ≤ q → record { leaf = None; tried = tried } ≡ round_of S L P
  unfolding model.round up_from keep
  going-none {q} {tried} g h =
      let z : length P - q ≡ 0 = omega arith in
      let r : rest q ≡ record { struck = none; tried = [] } = ap (λ (n : ℕ). model.round verdict_on (keep (model.may_go P) (up_from q n))) z in
      let l : None ≡ leaf_of whole.struck = sym (g.leaf ∙ ap (λ (x : model.Round). leaf_of x.struck) r) in
      let d : total (rest q).tried ≡ 0 = ap (λ (x : model.Round). total x.tried) r in
      let c = g.sum in
      let s : tried ≡ total whole.tried = omega arith in
      λ i. record { leaf = l i; tried = s i }
