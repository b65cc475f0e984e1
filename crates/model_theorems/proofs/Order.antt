-- The order between links does not matter: the proofs of `Demand3` and `SlotAlone`, from the theorem on shuffles of commuting
-- calls. Assumes nothing.
use Rattle.std.specs.Prelude.{ℕ, ◌<◌, ◌≡◌, refl, ◌≢◌, Bool, true, false, cond, length, eqb}
use Rattle.std.proofs.Common.{sym, ap, ◌∙◌, subst, arith, length-set, get_or-set_other, eq-eqb, ne_eqb}
use mathlib.Core.List.{List, [], ◌∷◌, map, nil≢cons, Memᴰ}
use Rattle.pool.specs.declared.Share.TheVariants.{Untouched}
use Rattle.slot.specs.declared.ConnectionStorage.{ConnectionStorage}
use Rattle.slot.specs.declared.ConnectionManager.{ConnectionManager}
use Rattle.slot.specs.declared.Woken.TheVariants.{Nobody}
use Rattle.slot.specs.Fresh.{blank_slot}
use Rattle.shuffle.specs.Shuffle.{only, keep, tag, All, all_of, all_only, serial}
use Rattle.shuffle.proofs.Serial.{only_idem, all_serial, only_serial}
use Rattle.shuffle.specs.Shuffle as shuffle
use Rattle.shuffle.proofs.Runs as runs
use Rattle.model.specs.Find.{slot_at, lets}
use Rattle.model.specs.Link.{Op, way_of, absent, local}
use Rattle.model.specs.Demand3.{Link, OwnHandles, OnLinks, Trace, of_link, answers_from, table_from, answers, end_table, Lists, alone, Shuffle, in_turn, Distinct, Demand3}
use Rattle.model_theorems.specs.Lost.{SlotAlone}
use Rattle.model_theorems.specs.Sound.{Sound}
use Rattle.model_theorems.proofs.Reach.{put_here, reached_sound}
use Rattle.model_theorems.proofs.Own.{Under, under_start, at_own, own_step, call, agree, keeps, commute, unmoved}

-- ---- what belongs to one link

of_only : {X : Type 0} (i : ℕ) (es : List (ℕ × X)) → of_link i es ≡ map (λ e. e.1) (only tag i es)
of_only i [] = refl
of_only i (e ∷ es) = go (eqb i e.0) (of_only i es)
  where
    go : (b : Bool) → of_link i es ≡ map (λ f. f.1) (only tag i es)
        → cond b (e.1 ∷ of_link i es) (of_link i es) ≡ map (λ f. f.1) (keep b e (only tag i es))
    go true q = rw q
    go false q = q

only_of : {X : Type 0} (i : ℕ) (es : List (ℕ × X)) → only tag i es ≡ map (λ x. (i, x)) (of_link i es)
only_of i [] = refl
only_of {X} i (e ∷ es) =
    shuffle.by_key tag i e
    (λ p. rw (shuffle.only_hit tag i e es p, eq-eqb i e.0 p) (λ k. (sym p k, e.1) ∷ only_of i es k))
    (λ n. rw (shuffle.only_miss tag i e es n, ne_eqb i e.0 n) (only_of i es))

-- the entries of link i alone have the same
of_own : {X : Type 0} (i : ℕ) (es : List (ℕ × X)) → of_link i (only tag i es) ≡ of_link i es
of_own i es = of_only i (only tag i es) ∙ ap (map (λ e. e.1)) (only_idem tag i es) ∙ sym (of_only i es)

-- what holds of each number that has an entry holds of each entry
each_entry : {X : Type 0} (P : ℕ → Type 0) (es : List (ℕ × X)) → ((i : ℕ) → of_link i es ≢ [] → P i) → All (λ e. P e.0) es
each_entry P [] h = tt
each_entry {X} P (e ∷ es) h = (h e.0 first, each_entry P es (λ i n. h i (later i n)))
  where
    first : of_link e.0 (e ∷ es) ≢ []
    first q = nil≢cons (sym (rw (eq-eqb e.0 e.0 refl) at q))

    later : (i : ℕ) → of_link i es ≢ [] → of_link i (e ∷ es) ≢ []
    later i n = go (eqb i e.0)
      where
        go : (b : Bool) → cond b (e.1 ∷ of_link i es) (of_link i es) ≢ []
        go true q = nil≢cons (sym q)
        go false q = n q

-- ---- the runs of Demand3 are those of the theorem

module _ (start : ConnectionManager) where
  answers_are : (es : Trace) (t : ConnectionManager) → answers_from start es t ≡ shuffle.answers tag (call start) es t
  answers_are [] t = refl
  answers_are (e ∷ es) t = rw (answers_are es (call start e t).1)

  table_is : (es : Trace) (t : ConnectionManager) → table_from start es t ≡ shuffle.end (call start) es t
  table_is [] t = refl
  table_is (e ∷ es) t = table_is es (call start e t).1

-- the calls of link i in a shuffle are its list, alone
own_list : (lists : Lists) (es : Trace) → Shuffle lists es → (i : ℕ) → only tag i es ≡ alone lists i
own_list lists es s i = only_of i es ∙ ap (map (λ op. (i, op))) (s i)

-- each call in a shuffle is of a link
of_links : (start : ConnectionManager) (lists : Lists) → OnLinks start lists → (es : Trace) → Shuffle lists es
    → All (λ e. Link start e.0) es
of_links start lists on es s = each_entry (Link start) es (λ i n. on i (λ p. n (s i ∙ p)))

-- whole lists one after another, in a shuffle of them
in_turn_lem : (lists : Lists) (es : Trace) → Shuffle lists es → (is : List ℕ) → in_turn lists is ≡ serial tag is es
in_turn_lem lists es s [] = refl
in_turn_lem lists es s (i ∷ is) = rw (own_list lists es s i, in_turn_lem lists es s is)

distinct : (is : List ℕ) → Distinct is → shuffle.Distinct is
distinct [] d = tt
distinct (i ∷ is) d = (d.0, distinct is d.1)

-- ---- a table whose links have handles of their own

abbrev Any : {X : Type 0} → X → Type 0
Any x = Unit {0}

module _ (start : ConnectionManager) (sound : Sound start) (own : OwnHandles start) where
  abbrev OfLink : ℕ × Op → Type 0
  OfLink e = Link start e.0

  -- each call is made on the link's own slot
  own_answers : (es : Trace) → All OfLink es → answers start es ≡ shuffle.answers tag own_step es start
  own_answers es a =
      answers_are start es start
      ∙ runs.agree_answers tag (call start) own_step OfLink (Under start) (keeps start) (agree start own) es start a (under_start start sound)

  own_table : (es : Trace) → All OfLink es → end_table start es ≡ shuffle.end own_step es start
  own_table es a =
      table_is start es start
      ∙ runs.agree_end tag (call start) own_step OfLink (Under start) (keeps start) (agree start own) es start a (under_start start sound)

  -- (1) the answers of link i are those of its calls alone
  link_alone : (es : Trace) → All OfLink es → (i : ℕ) → of_link i (answers start es) ≡ of_link i (answers start (only tag i es))
  link_alone es a i =
      sym (of_own i (answers start es))
      ∙ ap (of_link i)
      (ap (only tag i) (own_answers es a)
      ∙ runs.alone tag own_step Any Any (λ e w o v. tt) (λ e f w o o' v n. commute e f w n) (λ e f w o o' v n. unmoved e f w n)
      i es start (all_of (λ e. tt) es) tt
      ∙ sym (own_answers (only tag i es) (all_only tag OfLink i es a)))

  -- (2) two traces with the same calls of each link answer alike and end alike
  module _ (es es' : Trace) (a : All OfLink es) (a' : All OfLink es') (q : (i : ℕ) → only tag i es ≡ only tag i es') where
    link_answers : (i : ℕ) → of_link i (answers start es) ≡ of_link i (answers start es')
    link_answers i =
        link_alone es a i ∙ ap (λ (u : Trace). of_link i (answers start u)) (q i) ∙ sym (link_alone es' a' i)

    link_table : end_table start es ≡ end_table start es'
    link_table =
        own_table es a
        ∙ runs.same_end tag own_step Any Any (λ e w o v. tt) (λ e f w o o' v n. commute e f w n) (λ e f w o o' v n. unmoved e f w n)
        es es' start (all_of (λ e. tt) es) (all_of (λ e. tt) es') tt q
        ∙ sym (own_table es' a')

-- ---- a link's slot at the end is what its own calls alone make of it

module _ (i : ℕ) where
  -- two tables in which a call of link i does the same
  record Alike (t u : ConnectionManager) : Type 0 where
    slot : slot_at t i ≡ slot_at u i
    mtu : t.default_att_mtu ≡ u.default_att_mtu
    first : i < length t.connections
    second : i < length u.connections

  -- a call of link i, made on both
  alike_own : (op : Op) (t u : ConnectionManager) → Alike t u → Alike (own_step (i, op) t).1 (own_step (i, op) u).1
  alike_own op t u a =
      record {
        slot =
            put_here t i _ a.first
            ∙ (λ k. here (a.slot k) (a.mtu k))
            ∙ sym (put_here u i _ a.second);
        mtu = a.mtu;
        first = omega (arith, length-set t.connections i (at_own (i, op) t).slot, a.first);
        second = omega (arith, length-set u.connections i (at_own (i, op) u).slot, a.second);
      }
    where
      here : ConnectionStorage → ℕ → ConnectionStorage
      here s d =
          (cond (lets (way_of op) s) (local op d i s) (record { reply = absent op d; woken = Nobody; slot = s; share = Untouched })).slot

  -- a call of another link, made on the first
  alike_other : (e : ℕ × Op) (t u : ConnectionManager) → i ≢ e.0 → Alike t u → Alike (own_step e t).1 u
  alike_other e t u n a =
      record {
        slot = get_or-set_other t.connections e.0 i (at_own e t).slot blank_slot n ∙ a.slot;
        mtu = a.mtu;
        first = omega (arith, length-set t.connections e.0 (at_own e t).slot, a.first);
        second = a.second;
      }

  alike_end : (es : Trace) (t u : ConnectionManager) → Alike t u
      → slot_at (shuffle.end own_step es t) i ≡ slot_at (shuffle.end own_step (only tag i es) u) i
  alike_end [] t u a = a.slot
  alike_end (e ∷ es) t u a =
      shuffle.by_key tag i e
      (λ p.
      rw (shuffle.only_hit tag i e es p)
      (alike_end es (own_step e t).1 (own_step e u).1
      (subst (λ j. Alike (own_step (j, e.1) t).1 (own_step (j, e.1) u).1) p (alike_own e.1 t u a))))
      (λ n. rw (shuffle.only_miss tag i e es n) (alike_end es (own_step e t).1 u (alike_other e t u n a)))

pub slot_alone : SlotAlone
unfolding SlotAlone
slot_alone start reached own lists on es s i link =
    ap (λ (u : ConnectionManager). slot_at u i) (own_table start sound own es a)
    ∙ alike_end i es start start (record { slot = refl; mtu = refl; first = place; second = place })
    ∙ ap (λ (u : ConnectionManager). slot_at u i) (sym (own_table start sound own (only tag i es) (all_only tag (λ e. Link start e.0) i es a)))
    ∙ ap (λ (u : Trace). slot_at (end_table start u) i) (own_list lists es s i)
  where
    sound : Sound start
    sound = reached_sound start reached

    a : All (λ e. Link start e.0) es
    a = of_links start lists on es s

    place : i < length start.connections
    place = omega (arith, sound.places, sound.formed.most, link.0)

pub demand3 : Demand3
unfolding Demand3
demand3 start reached own lists on es s = (
  λ i. link_alone start sound own es a i ∙ ap (λ (u : Trace). of_link i (answers start u)) (own_list lists es s i),
  λ is o.
      let c : All (λ e. Memᴰ e.0 is) es = each_entry (λ i. Memᴰ i is) es (λ i n. o.1 i (λ p. n (s i ∙ p))) in
      let a' : All (λ e. Link start e.0) (serial tag is es) = all_serial tag (λ e. Link start e.0) is es a in
      let q = only_serial tag is es (distinct is o.0) c in
      rw (in_turn_lem lists es s is) (
        link_answers start sound own es (serial tag is es) a a' (λ i. sym (q i)),
        link_table start sound own es (serial tag is es) a a' (λ i. sym (q i)),
      ),
)
  where
    sound : Sound start
    sound = reached_sound start reached

    a : All (λ e. Link start e.0) es
    a = of_links start lists on es s
