-- The loop that strikes. Each turn makes a round of the model's loop over the pattern that stands in the bytes; what is struck and tried so
-- far, and the rest of the model's loop from there, is what striking comes to. Assumes nothing.
use Prim.Native.Nat.{ℕ, suc, ◌+◌, ◌-◌, ◌*◌, ◌≤◌, ◌<◌}
use mathlib.Core.Path.{◌≡◌, refl, sym, ap, ◌∙◌, subst}
use mathlib.Core.Bool.{true}
use mathlib.Core.Option.{Option, none, some}
use Rattle.std.specs.Prelude.{Some, None}
use mathlib.Core.List.{List, [], ◌∷◌, ◌++◌, append_assoc, append-nil}
use native.Mathlib.Omega.{arith}
use native.Mathlib.Nat.{zero-add}
use lib.ListN.{length, get_or, length-append}
use Rattle.model.specs.Limits.{max_limit, max_pattern}
use Rattle.model.specs.Lists.{up_from, total}
use Rattle.model.specs.Summary.{Summary}
use Rattle.model.specs.Pattern.{Pattern, arity}
use Rattle.model.specs.Facts.{PatternFacts}
use Rattle.model.specs.Striking.{removed, without, may_go, may_go_of, verdict_without, Round, round, Struck, also_struck, strike_from, strike_all}
use Rattle.model.proofs.ListLaws.{length-keep, length-up_from}
use Rattle.model.proofs.Verdict.{verdict-tried}
use Rattle.model.proofs.Removing.{length_removed, length_without, without-carries}
use Rattle.model.proofs.Rounds.{total-append, RoundFacts, round-facts, each-limited}
use Rattle.model.proofs.Striking.{leaf-may, facts-without}
use Rattle.striking.specs.Present.{Strikable}
use Rattle.striking.specs.Rounds.{leaf_of, round_of}
use Rattle.striking.specs.Strikes.{StruckBy}
use Rattle.striking.specs.declared.round.Rounded.{Rounded}
use Rattle.striking.proofs.RoundLaws.{most_tried}
use Rattle.striking.proofs.SectionBytes.{low-without}

-- ---- a round

module _ (S : Summary) (L : ℕ) (P : Pattern) where
  abbrev r : Round
  r = round (verdict_without S L P) (may_go_of P)

  held : RoundFacts (verdict_without S L P) L (may_go_of P) r
  held = round-facts (verdict_without S L P) L (λ q. verdict-tried S (without P q) (P ∷ []) L) (may_go_of P)

  struck-may : (q : ℕ) → r.struck ≡ some q → (q < length P) × (may_go P q ≡ true)
  struck-may q e = leaf-may P q (held.strikes q e).0

  leaf-none : leaf_of r.struck ≡ None → r.struck ≡ none
  leaf-none z = go r.struck refl z
    where
      go : (o : Option ℕ) → r.struck ≡ o → leaf_of o ≡ None → r.struck ≡ none
      go none e k = e
      go (some q) e k = absurd (cc k)

  leaf-some : {q : ℕ} → leaf_of r.struck ≡ Some q → r.struck ≡ some q
  leaf-some {q} z = go r.struck refl z
    where
      go : (o : Option ℕ) → r.struck ≡ o → leaf_of o ≡ Some q → r.struck ≡ some q
      go none e k = absurd (cc k)
      go (some p) e k = let same : p ≡ q = cc k in e ∙ ap (λ (x : ℕ). some x) same

  few-leaves : length (may_go_of P) ≤ length P
  few-leaves = let l = length-keep (may_go P) (up_from 0 (length P)) in let n = length-up_from 0 (length P) in omega arith

  pub round-bound : L ≤ max_limit → length P ≤ max_pattern → total r.tried ≤ most_tried
  round-bound h few =
      let b : total r.tried ≤ max_pattern * L = each-limited L r.tried max_pattern (let l = held.few in let n = few-leaves in omega arith) held.each in
      omega arith

  -- what the loop does with it
  loop_ended : (n : ℕ) (own : List ℕ) → r.struck ≡ none → strike_from (suc n) S L P own ≡ record { pattern = P; struck = []; tried = r.tried }
  unfolding strike_from
  loop_ended n own e =
      ap (λ (o : Option ℕ). elim o as (λ _. Struck) [ none ↦ record { pattern = P; struck = []; tried = r.tried } | some q ↦ also_struck (get_or own q 0) r.tried (strike_from n S L (without P q) (removed q own)) ]) e

  loop-went : (n : ℕ) (own : List ℕ) {q : ℕ} → r.struck ≡ some q → strike_from (suc n) S L P own ≡ also_struck (get_or own q 0) r.tried (strike_from n S L (without P q) (removed q own))
  unfolding strike_from
  loop-went n own e =
      ap (λ (o : Option ℕ). elim o as (λ _. Struck) [ none ↦ record { pattern = P; struck = []; tried = r.tried } | some q ↦ also_struck (get_or own q 0) r.tried (strike_from n S L (without P q) (removed q own)) ]) e

-- ---- the rest of the model's loop

-- s comes of the rest, from P whose nodes were numbered `own`, after these were struck and n tried
pub record Ahead (S : Summary) (L : ℕ) (s : Struck) (P : Pattern) (own taken : List ℕ) (n : ℕ) : Type 0 where
  pub pattern : s.pattern ≡ (strike_from (length P) S L P own).pattern
  pub struck : s.struck ≡ taken ++ (strike_from (length P) S L P own).struck
  pub tried : total s.tried ≡ n + total (strike_from (length P) S L P own).tried

module _ (S : Summary) (L : ℕ) where
  ahead-start : (P : Pattern) → Ahead S L (strike_all S L P) P (up_from 0 (length P)) [] 0
  unfolding strike_all
  ahead-start P = record { pattern = refl; struck = refl; tried = sym (zero-add _) }

  module _ {s : Struck} {P : Pattern} {own taken : List ℕ} {n : ℕ} (a : Ahead S L s P own taken n) where
    ahead_step : {q : ℕ} → (r S L P).struck ≡ some q → Ahead S L s (without P q) (removed q own) (taken ++ get_or own q 0 ∷ []) (n + total (r S L P).tried)
    ahead_step {q} e =
        let rest : Struck = strike_from (length (without P q)) S L (without P q) (removed q own) in
        let went : strike_from (length P) S L P own ≡ also_struck (get_or own q 0) (r S L P).tried rest =
        ap (λ (m : ℕ). strike_from m S L P own) (sym (length_without P q (struck-may S L P q e).0)) ∙ loop-went S L P (length (without P q)) own e in
        record {
          pattern = a.pattern ∙ ap (λ (x : Struck). x.pattern) went;
          struck = a.struck ∙ ap (λ (x : Struck). taken ++ x.struck) went ∙ sym (append_assoc taken (get_or own q 0 ∷ []) rest.struck);
          tried = let t = total-append (r S L P).tried rest.tried in a.tried ∙ ap (λ (x : Struck). n + total x.tried) went ∙ omega arith;
        }

    ahead-end : 0 < length P → (r S L P).struck ≡ none → (s.pattern ≡ P) × (s.struck ≡ taken) × (total s.tried ≡ n + total (r S L P).tried)
    ahead-end inhabited e =
        let more : length P ≡ suc (length P - 1) = omega arith in
        let ended : strike_from (length P) S L P own ≡ record { pattern = P; struck = []; tried = (r S L P).tried } =
        ap (λ (m : ℕ). strike_from m S L P own) more ∙ loop_ended S L P (length P - 1) own e in (
          a.pattern ∙ ap (λ (x : Struck). x.pattern) ended,
          a.struck ∙ ap (λ (x : Struck). taken ++ x.struck) ended ∙ append-nil taken,
          a.tried ∙ ap (λ (x : Struck). n + total x.tried) ended,
        )

-- ---- the turns

-- before turn k, of the pattern P₀ at first: the present pattern, its nodes' names and the numbers struck
pub record Striking (S : Summary) (L : ℕ) (P₀ P : Pattern) (names struck : List ℕ) (tried k : ℕ) : Type 0 where
  pub ahead : Ahead S L (strike_all S L P₀) P names struck tried
  pub named : length names ≡ length P
  pub count : length struck ≡ k
  pub stands : Strikable S P L
  pub turns : length P + k ≡ length P₀
  pub few : length P₀ ≤ max_pattern
  pub bound : tried ≤ k * most_tried

pub striking-start : {S : Summary} {L : ℕ} {P : Pattern} {names struck : List ℕ} → Strikable S P L → names ≡ up_from 0 (length P) → struck ≡ [] → Striking S L P P names struck 0 0
striking-start {S} {L} {P} {names} {struck} s e z =
    record {
      ahead =
          subst (λ (xs : List ℕ). Ahead S L (strike_all S L P) P names xs 0) (sym z)
          (subst (λ (own : List ℕ). Ahead S L (strike_all S L P) P own [] 0) (sym e) (ahead-start S L P));
      named = ap length e ∙ length-up_from 0 (length P);
      count = ap length z;
      stands = s;
      turns = omega arith;
      few = s.pattern.few;
      bound = omega arith;
    }

-- what an accepted case has stays without a leaf
pub still-strikable : {S : Summary} {P : Pattern} {L : ℕ} → Strikable S P L → (q : ℕ) → q < length P → may_go P q ≡ true → Strikable S (without P q) L
still-strikable {S} {P} {L} s q inside may =
    let facts : PatternFacts (without P q) = facts-without s.outline L s.facts s.pattern.few inside may in
    let arities : arity (without P q) ≡ arity P = (without-carries P q inside may).arities in
    let shorter = length_without P q inside in
    let few = s.pattern.few in
    let some = s.some_arity in
    let bound = s.arity_bound in
    record {
      summary = s.summary;
      outline = s.outline;
      pattern = record { tree = facts.tree; few = omega arith };
      facts = facts;
      some_arity = omega arith;
      arity_bound = omega arith;
      figures = low-without P q inside s.figures;
      limited = s.limited;
    }

module _ {S : Summary} {L : ℕ} {P₀ P : Pattern} {names struck : List ℕ} {tried k : ℕ} (v : Striking S L P₀ P names struck tried k) where
  -- the root is there at every turn, so fewer turns than nodes are made, and there is a place for one more number
  pub turns-left : (k < length P₀) × (length struck < 16)
  turns-left = let i = v.stands.facts.tree.inhabited in let t = v.turns in let f = v.few in let c = v.count in (omega arith, omega arith)

  module _ {x : Rounded} (e : x ≡ round_of S L P) where
    pub tried-bound : x.tried ≤ most_tried
    tried-bound = subst (λ (n : ℕ). n ≤ most_tried) (ap (λ (y : Rounded). y.tried) (sym e)) (round-bound S L P v.stands.limited v.stands.pattern.few)

    pub striking-end : x.leaf ≡ None → StruckBy (strike_all S L P₀) P (record { struck = struck; tried = tried + x.tried })
    striking-end z =
        let a = ahead-end S L v.ahead v.stands.facts.tree.inhabited (leaf-none S L P (ap (λ (y : Rounded). y.leaf) (sym e) ∙ z)) in
        record { pattern = sym a.0; struck = sym a.1; tried = ap (λ (y : Rounded). tried + y.tried) e ∙ sym a.2 }

    module _ {q : ℕ} (f : x.leaf ≡ Some q) where
      hit : (r S L P).struck ≡ some q
      hit = leaf-some S L P (ap (λ (y : Rounded). y.leaf) (sym e) ∙ f)

      pub leaf-goes : (q < length P) × (may_go P q ≡ true)
      leaf-goes = struck-may S L P q hit

      pub named-inside : q < length names
      named-inside = let n = v.named in let l = leaf-goes.0 in omega arith

      ahead_after : Ahead S L (strike_all S L P₀) (without P q) (removed q names) (struck ++ get_or names q 0 ∷ []) (tried + x.tried)
      ahead_after =
          subst (λ (y : Rounded). Ahead S L (strike_all S L P₀) (without P q) (removed q names) (struck ++ get_or names q 0 ∷ []) (tried + y.tried)) (sym e) (ahead_step S L v.ahead hit)

      pub striking-step : {present : Pattern} {names' struck' : List ℕ} {number : ℕ} → present ≡ without P q → number ≡ get_or names q 0 → names' ≡ removed q names → struck' ≡ struck ++ number ∷ []
          → Striking S L P₀ present names' struck' (tried + x.tried) (k + 1)
      striking-step {present} {names'} {struck'} {number} w d m u =
          let put : struck' ≡ struck ++ get_or names q 0 ∷ [] = u ∙ ap (λ (n : ℕ). struck ++ n ∷ []) d in
          let shorter : suc (length (without P q)) ≡ length P = length_without P q leaf-goes.0 in
          subst (λ (Q : Pattern). Striking S L P₀ Q names' struck' (tried + x.tried) (k + 1)) (sym w)
          (record {
            ahead =
                subst (λ (ns : List ℕ). Ahead S L (strike_all S L P₀) (without P q) ns struck' (tried + x.tried)) (sym m)
                (subst (λ (xs : List ℕ). Ahead S L (strike_all S L P₀) (without P q) (removed q names) xs (tried + x.tried)) (sym put) ahead_after);
            named = let a = ap length m in let b = length_removed q names named-inside in let s = shorter in let n = v.named in omega arith;
            count = let a = ap length u in let l = length-append struck (number ∷ []) in let c = v.count in omega arith;
            stands = still-strikable v.stands q leaf-goes.0 leaf-goes.1;
            turns = let s = shorter in let t = v.turns in omega arith;
            few = v.few;
            bound = let b = tried-bound in let c = v.bound in omega arith;
          })
