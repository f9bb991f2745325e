-- The machines of the records that are used, one after the other: past those that are not used, and after one with too many states.
-- Assumes nothing.
use Rattle.words.proofs.Vocabulary.{ℕ, ◌≤◌, ◌<◌, ◌+◌, ◌-◌, suc, zero, ◌≡◌, ◌∙◌, refl, sym, ap, ap₂, subst, ⊎_elim, List, [], ◌∷◌, ◌++◌, some}
use Rattle.words.proofs.Vocabulary.{Option, none, Bool, true, false, cond, ◌&&◌, T, ltb, ltb→lt, ◌↔◌, length, get_or, List·getD-append, length-append}
use Rattle.words.proofs.Vocabulary.{get_or-append_seam, add-zero, eq-or-lt_of_le, add-suc, add-one, drop, arith}
use lib.Dec.{lt→ltb}
use Rattle.records.specs.Rule.{Mach, no_mach, machine_of, no_decoded, SomeParts, Stored}
use Rattle.joining.specs.Joining.{joined_of}
use Rattle.layout.specs.Shape.{share_of, share_at}
use Rattle.layout.specs.declared.Shape.{Shape}
use Rattle.records.specs.declared.Decoded.{Decoded}
use Rattle.records.specs.declared.Summary.{Summary}
use Rattle.std.specs.Prelude.{Result, Ok, Err, IsOk, IsErr}
use Rattle.std.proofs.lemmas.Result.{IfErr-at_err}
use Rattle.refusals.specs.declared.OverCeiling.{OverCeiling}
use Rattle.building.specs.declared.Machines.{Machines}
use Rattle.building.specs.Named.{NamesUsed, next_of}
use Rattle.building.specs.OneRecord.{Buildable, AllStored, Tried, Builds}
use Rattle.building.specs.Build.{Progress, built, over, more, after, passed, upto, Made, MadeBy, Untouched, entry_of}
use Rattle.records.proofs.Shares.{drop-later}
use Rattle.layout.proofs.Places.{share-next}
use Rattle.logic.proofs.Connectives.{and_iff}
use Rattle.building.proofs.Marks.{named-all, next-within, next-used}
use Rattle.building.proofs.OneRecord.{changed-other, spared_at, parts-stored}

-- ---- one record more
-- those of the first r records that are used
abbrev used_below : (ℕ → Bool) → ℕ → ℕ → Bool
used_below used r a = ltb a r && used a

below_iff : (used : ℕ → Bool) (r a : ℕ) → T (used_below used r a) ↔ ((a < r) × T (used a))
below_iff used r a = and_iff (ltb a r) (used a) (ltb→lt a r, lt→ltb a r) (λ t. t, λ t. t)

-- the machines of the first r records, those of them that are used, are stored
pub record Upto (xs : List Decoded) (used : ℕ → Bool) (s : Shape) (r : ℕ) (es : ℕ → Summary) (ws : List ℕ) : Type 0 where
  pub machines : List Mach
  pub is : upto xs used s r ≡ built machines
  pub size : length machines ≡ r
  pub stored : AllStored (used_below used r) (λ a. get_or machines a no_mach) s es ws

ready-first : {xs : List Decoded} {used : ℕ → Bool} {s : Shape} {es : ℕ → Summary} {ws : List ℕ} → Upto xs used s 0 es ws
unfolding upto
ready-first {xs} {used} = record { machines = []; is = refl; size = refl; stored = λ a u. absurd (omega (arith, ((below_iff used 0 a).0 u).0)) }

made-ready : {xs : List Decoded} {used : ℕ → Bool} {s : Shape} {r : ℕ} (t : Machines) {ws : List ℕ} → Upto xs used s r (entry_of t) ws
    → MadeBy used xs s r (Ok t) ws
made-ready {xs} {used} {s} {r} t w = rw w.is (w.size, λ a h u. w.stored a ((below_iff used r a).1 (h, u)))

upto_next : (xs : List Decoded) (used : ℕ → Bool) (s : Shape) (r : ℕ)
    → upto xs used s (r + 1) ≡ cond (used r) (after s r (get_or xs r no_decoded) (upto xs used s r)) (passed (upto xs used s r))
unfolding upto
upto_next xs used s r = ap (upto xs used s) (add-one r)

module _ {xs : List Decoded} {used : ℕ → Bool} {s : Shape} {r : ℕ} {es : ℕ → Summary} {ws : List ℕ} (w : Upto xs used s r es ws) where
  abbrev x : Decoded
  x = get_or xs r no_decoded

  abbrev made : ℕ → Mach
  made a = get_or w.machines a no_mach

  -- with one more, whatever it is: those before it stay, and it is stored if it is used
  one_more : {es' : ℕ → Summary} {ws' : List ℕ} (m : Mach) → upto xs used s (r + 1) ≡ built (w.machines ++ (m ∷ []))
      → ((a : ℕ) → a < r → T (used a) → Stored s (share_at s a) (made a) (es' a) ws') → (T (used r) → Stored s (share_at s r) m (es' r) ws')
      → Upto xs used s (r + 1) es' ws'
  one_more {es'} {ws'} m e before here = record {
    machines = w.machines ++ (m ∷ []);
    is = e;
    size = length-append w.machines (m ∷ []) ∙ omega (arith, w.size);
    stored = λ a u.
        let v = (below_iff used (r + 1) a).0 u in
        ⊎_elim
        (λ (q : a ≡ r). rw (q, last) (here (rw q at v.1)))
        (λ (l : a < r). rw (List·getD-append w.machines (m ∷ []) no_mach a (omega (arith, w.size))) (before a l v.1))
        (eq-or-lt_of_le (omega (arith, v.0)));
  }
    where
      last : get_or (w.machines ++ (m ∷ [])) r no_mach ≡ m
      last = ap (λ (n : ℕ). get_or (w.machines ++ (m ∷ [])) n no_mach) (sym w.size) ∙ get_or-append_seam w.machines m [] no_mach

  -- a record that is not used is passed over
  ready_pass : used r ≡ false → Upto xs used s (r + 1) es ws
  unfolding passed
  ready_pass e =
      one_more no_mach (upto_next xs used s r ∙ rw e (ap passed w.is)) (λ a h u. w.stored a ((below_iff used r a).1 (h, u))) (λ u. absurd (subst T e u))

  module _ (is_used : used r ≡ true) where
    next_is : (o : Option Mach) → machine_of s x (made x.first) (made x.second) ≡ o → upto xs used s (r + 1) ≡ more s r w.machines o
    unfolding after
    next_is o e = upto_next xs used s r ∙ rw is_used (ap (after s r x) w.is ∙ ap (more s r w.machines) e)

    module _ {es' : ℕ → Summary} {ws' : List ℕ} {v : Result Unit OverCeiling} (t : Tried x s r (used_below used r) made es es' ws ws' v) where
      ready-next : IsOk v → Upto xs used s (r + 1) es' ws'
      ready-next e =
          let new = t.few e in
          one_more (joined_of s new.0) (next_is (some new.0) new.1)
          (λ a h u. t.others a (rw (changed-other (used_below used r) r false a (λ (q : a ≡ r). omega arith)) ((below_iff used r a).1 (h, u))))
          (λ u. new.2.stored)

      over-next : IsErr v → upto xs used s (r + 1) ≡ over r
      over-next e = next_is none (t.many e)

-- and so up to the next one that is used
ready-next-used : {xs : List Decoded} {used : ℕ → Bool} {s : Shape} {es : ℕ → Summary} {ws : List ℕ} (d r : ℕ) → Upto xs used s r es ws
    → Upto xs used s (next_of used r d) es ws
unfolding next_of
ready-next-used zero r w = w
ready-next-used {xs} {used} {s} {es} {ws} (suc d) r w = go (used r) refl (λ z. ready-next-used d (suc r) z)
  where
    go : (v : Bool) → used r ≡ v → (Upto xs used s (suc r) es ws → Upto xs used s (next_of used (suc r) d) es ws)
        → Upto xs used s (cond v r (next_of used (suc r) d)) es ws
    go true e f = w
    go false e f = f (subst (λ (z : ℕ). Upto xs used s z es ws) (add-one r) (ready_pass w e))

-- nothing is made after a record with too many states
over-rest : (xs : List Decoded) (used : ℕ → Bool) (s : Shape) (r k d : ℕ) → upto xs used s r ≡ over k → upto xs used s (r + d) ≡ over k
unfolding after passed
over-rest xs used s r k zero e = ap (upto xs used s) (add-zero r) ∙ e
over-rest xs used s r k (suc d) e =
    ap (upto xs used s) (add-suc r d ∙ sym (add-one (r + d))) ∙ upto_next xs used s (r + d)
    ∙ ap (λ (o : Progress). cond (used (r + d)) (after s (r + d) (get_or xs (r + d) no_decoded) o) (passed o)) (over-rest xs used s r k d e)
    ∙ either (used (r + d))
  where
    either : (v : Bool) → cond v (over k) (over k) ≡ over k
    either true = refl
    either false = refl

made-over : (xs : List Decoded) (used : ℕ → Bool) (s : Shape) (r m : ℕ) (o : OverCeiling) (ws : List ℕ) → r < m → o.at ≡ r
    → upto xs used s (r + 1) ≡ over r → MadeBy used xs s m (Err o) ws
made-over xs used s r m o ws h e p =
    let z : r + 1 + (m - (r + 1)) ≡ m = omega arith in
    rw (ap (upto xs used s) (sym z) ∙ over-rest xs used s (r + 1) r (m - (r + 1)) p) e

-- ---- the turns
-- what holds before record r, the next that is used: the machines before it are stored, and neither the share of a record that is not used,
-- nor what is kept of it, nor anything after all shares is changed
pub record Turn (xs : List Decoded) (used : ℕ → Bool) (s : Shape) (m : ℕ) (ws₀ : List ℕ) (es₀ es : ℕ → Summary) (ws : List ℕ) (r : ℕ) : Type 0 where
  pub within : r ≤ m
  pub is_used : r < m → used r ≡ true
  pub long : length ws ≡ length ws₀
  pub ready : Upto xs used s r es ws
  pub rest : drop (share_at s m) ws ≡ drop (share_at s m) ws₀
  pub untouched : Untouched used s m ws₀ ws
  pub same : (a : ℕ) → used a ≡ false → es a ≡ es₀ a

module _ {xs : List Decoded} {used : ℕ → Bool} {s : Shape} {m : ℕ} {ws₀ : List ℕ} {es₀ : ℕ → Summary} where
  pub turn-first : {next : ℕ} → next ≡ next_of used 0 (m - 0) → Turn xs used s m ws₀ es₀ es₀ ws₀ next
  turn-first e = record {
    within = omega (arith, next-within used (m - 0) 0);
    is_used = λ l. ap used e ∙ next-used used (m - 0) 0 (omega arith);
    long = refl;
    ready = rw e (ready-next-used (m - 0) 0 ready-first);
    rest = refl;
    untouched = record { same = λ r q l bare from to. refl };
    same = λ a bare. refl;
  }

  pub turn-done : {r : ℕ} {ws : List ℕ} (t : Machines) → m ≤ r → Turn xs used s m ws₀ es₀ (entry_of t) ws r → MadeBy used xs s m (Ok t) ws
  turn-done {r} {ws} t h w =
      let q : r ≡ m = omega (arith, w.within) in made-ready t (subst (λ (z : ℕ). Upto xs used s z (entry_of t) ws) q w.ready)

  -- record r is tried
  module _ (order : (r : ℕ) → r < m → Buildable (get_or xs r no_decoded) r s (length ws₀))
      (closed : (r : ℕ) → r < m → T (used r) → NamesUsed used (get_or xs r no_decoded)) {es : ℕ → Summary} {ws : List ℕ} {r : ℕ}
      (t : Turn xs used s m ws₀ es₀ es ws r) (h : r < m) where
    abbrev z : Decoded
    z = get_or xs r no_decoded

    names : NamesUsed (used_below used r) z
    names i e =
        (below_iff used r i).1
        (named-all z.kind z.first z.second (λ (a : ℕ). a < r) (order r h).fits.before i e, closed r h (rw (t.is_used h) tt) i e)

    pub turn_asks : Buildable z r s (length ws) × SomeParts z s (es z.first) (es z.second) ws
    turn_asks =
        let f = made t.ready in
        (subst (Buildable z r s) (sym t.long) (order r h), (f z.first, f z.second, parts-stored z (used_below used r) f t.ready.stored names))

    module _ {es' : ℕ → Summary} {ws' : List ℕ} {v : Result Unit OverCeiling} (b : Builds z s r es es' ws ws' v) where
      tried : Tried z s r (used_below used r) (made t.ready) es es' ws ws' v
      tried = b.tried (used_below used r) (made t.ready) t.ready.stored names

      -- a record that is not used is another
      apart : (a : ℕ) → used a ≡ false → a ≡ r → ⊥
      apart a bare e = subst T (sym (t.is_used h) ∙ ap used (sym e) ∙ bare) tt

      pub rest-next : drop (share_at s m) ws' ≡ drop (share_at s m) ws₀
      rest-next = drop-later (share_at s r + share_of s) (share_at s m) ws' ws (share-next s r m h) b.spared.high ∙ t.rest

      pub untouched-next : Untouched used s m ws₀ ws'
      untouched-next = record {
        same = λ a q l bare from to. spared_at b.spared a q (apart a bare) from to ∙ t.untouched.same a q l bare from to;
      }

      pub same_next : (a : ℕ) → used a ≡ false → es' a ≡ es₀ a
      same_next a bare = b.same a (λ e. absurd (apart a bare e)) ∙ t.same a bare

      pub turn-over : (o : OverCeiling) → v ≡ Err o → MadeBy used xs s m (Err o) ws'
      turn-over o e =
          made-over xs used s r m o ws' h (IfErr-at_err (λ o. o.at ≡ r) e b.named) (over-next t.ready (t.is_used h) tried (rw e refl))

      pub turn-next : IsOk v → length ws' ≡ length ws → {next : ℕ} → next ≡ next_of used (r + 1) (m - (r + 1)) → Turn xs used s m ws₀ es₀ es' ws' next
      turn-next e l n = record {
        within = omega (arith, next-within used (m - (r + 1)) (r + 1));
        is_used = λ q. ap used n ∙ next-used used (m - (r + 1)) (r + 1) (omega arith);
        long = l ∙ t.long;
        ready = rw n (ready-next-used (m - (r + 1)) (r + 1) (ready-next t.ready (t.is_used h) tried e));
        rest = rest-next;
        untouched = untouched-next;
        same = same_next;
      }

-- ---- other marks
-- which records are used matters of the first ones alone
upto_cong : (xs : List Decoded) (u v : ℕ → Bool) (s : Shape) (r : ℕ) → ((i : ℕ) → i < r → u i ≡ v i) → upto xs u s r ≡ upto xs v s r
unfolding upto
upto_cong xs u v s zero h = refl
upto_cong xs u v s (suc r) h =
    ap₂ (λ (b : Bool) (o : Progress). cond b (after s r (get_or xs r no_decoded) o) (passed o)) (h r (omega arith))
    (upto_cong xs u v s r (λ i l. h i (omega arith)))

pub untouched_cong : (u v : ℕ → Bool) {s : Shape} {m : ℕ} {ws ws' : List ℕ} → ((i : ℕ) → i < m → u i ≡ v i)
    → Untouched u s m ws ws' → Untouched v s m ws ws'
untouched_cong u v h w = record { same = λ r q l bare. w.same r q l (h r l ∙ bare) }

pub made_cong : (xs : List Decoded) (u v : ℕ → Bool) (s : Shape) (m : ℕ) (t : Result Machines OverCeiling) (ws : List ℕ) → ((i : ℕ) → i < m → u i ≡ v i)
    → MadeBy u xs s m t ws → MadeBy v xs s m t ws
made_cong xs u v s m t ws h w = subst (λ (o : Progress). Made v o s m t ws) (upto_cong xs u v s m h) (go (upto xs u s m) t w)
  where
    go : (o : Progress) (t : Result Machines OverCeiling) → Made u o s m t ws → Made v o s m t ws
    go (over k) (Ok t) e = e
    go (over k) (Err o) e = e
    go (built ms) (Ok t) e = (e.0, λ a l p. e.1 a l (subst T (sym (h a l)) p))
    go (built ms) (Err o) e = e
