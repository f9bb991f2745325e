-- The table's entries: a step of the exploration writes one and keeps the others. Assumes nothing.
use Rattle.words.proofs.Vocabulary.{ℕ, ◌≤◌, ◌<◌, ◌+◌, ◌≡◌, ◌∙◌, refl, sym, ap, subst, List, [], ◌∷◌, ◌++◌, some, Option, none, le-leb, lt-leb, leb-true, leb-false, Bool, true, false}
use Rattle.words.proofs.Vocabulary.{length, get_or, take, set, length-take-le, get_or-set_other, get_or-set_same, drop-set-lt, take-set-le, dec_lt, ℕ_discrete, arith}
use Rattle.layout.specs.Shape.{labels_in, share_of, place_in, Each, nil, cons, Tuple}
use Rattle.layout.proofs.Places.{each_append, each_imp, each_all, tuple_up, place-in, place-one}
use Rattle.table.specs.Entry.{Step, seen}
use Rattle.table.specs.Succ.{PlanRoom}
use Rattle.table.specs.declared.plan.Plan.{Plan}
use Rattle.table.proofs.Masks.{seen_le, seen-seen}
use Rattle.exploring.specs.declared.Builder.{Builder}
use Rattle.exploring.specs.Explore.{Visit, codes_at, insert, visit, visits}
use Rattle.exploring.specs.Filling.{listed, Entered, Cell, Visited, Noted}
use Rattle.exploring.proofs.Place.{Extends}
use Rattle.exploring.proofs.Grow.{Grows, many, longer, codes_same, are-below, Inserted, inserted, insert-grows, insert-place, has-place}
use Rattle.exploring.proofs.Grow.{visits-none, visits-append, visits-idle, visit-old}
use Rattle.exploring.proofs.Steps.{put-old}
use Rattle.logic.specs.Reach.{position}

-- two labels that the record does not tell apart have the same successors
abbrev pub Blind : Step → Plan → Type 0
Blind succ p = (l : ℕ) (xs : List ℕ) → succ (seen p.looks l) xs ≡ succ l xs

-- so the entry at the label that is seen is the entry of the label
pub cell_seen : {succ : Step} (p : Plan) → Blind succ p → (o : Option (List ℕ)) (ws : List ℕ) (l : ℕ) (is : List ℕ)
    → Cell succ p o ws (record { label = seen p.looks l; states = is }) → Cell succ p o ws (record { label = l; states = is })
cell_seen p blind none ws l is e = tt
cell_seen p blind (some cs) ws l is e =
    let same = blind l (codes_at cs is) in
    record {
      in_table = e.in_table;
      states = e.states;
      code = subst (λ (x : ℕ). position x cs < length cs) same e.code;
      written =
          ap (λ (m : ℕ). get_or ws (p.base + place_in p.shape m is) 0) (sym (seen-seen p.looks l)) ∙ e.written ∙ ap (λ (x : ℕ). position x cs) same;
    }

-- ---- one visit: the code that follows is put in, and its place written
module _ (succ : Step) (p : Plan) (blind : Blind succ p) (ws cs : List ℕ) (v : Visit) (hl : v.label < labels_in p.shape)
    (hs : v.label ≤ seen p.looks v.label) (hi : Tuple p.shape.branches (length cs) v.states) (hc : length cs ≤ p.shape.ceiling)
    (room : p.base + share_of p.shape ≤ length ws) where
  abbrev here : ℕ
  here = succ v.label (codes_at cs v.states)

  abbrev place : ℕ
  place = p.base + place_in p.shape v.label v.states

  abbrev after : List ℕ
  after = set ws place (position here cs)

  module _ {ds : List ℕ} (i : Inserted p.shape.ceiling here cs (some ds)) (g : Extends cs ds) where
    new_cell : Entered succ p ds after v
    new_cell =
        let k = codes_same (length cs) ds cs g.same hi.below in
        let own : seen p.looks v.label ≡ v.label = omega (arith, seen_le p.looks v.label) in
        let within : place < length ws = omega (arith, place-in p.shape v.label v.states hl (tuple_up hc hi)) in
        record {
          in_table = tuple_up hc hi;
          states = tuple_up g.long hi;
          code = rw k (insert-place i).1;
          written = rw (own, k) (get_or-set_same ws place (position here cs) 0 within ∙ sym (insert-place i).0);
        }

    old_cell : (u : Visit) → Entered succ p cs ws u → Entered succ p ds after u
    old_cell u k =
        let m = seen p.looks u.label in
        elim (ℕ_discrete (place_in p.shape m u.states) (place_in p.shape v.label v.states)) [
          | yes q ↦
              let one = place-one p.shape m v.label u.states v.states k.in_table (tuple_up hc hi) q in
              cell_seen p blind (some ds) after u.label u.states (rw (one.0, one.1) new_cell)
          | no far ↦
              let same = has-place succ u g (k.states.below, k.code) in
              let apart = get_or-set_other ws place (p.base + place_in p.shape m u.states) (position here cs) 0 (λ z. far (omega arith)) in
              record {
                in_table = k.in_table;
                states = tuple_up g.long k.states;
                code = omega (arith, same, k.code, g.long);
                written = apart ∙ k.written ∙ sym same;
              }
        ]

  visit-cells : {o : Option (List ℕ)} → Inserted p.shape.ceiling here cs o → Grows (some cs) o
      → Cell succ p o after v × ((u : Visit) → Cell succ p (some cs) ws u → Cell succ p o after u)
  visit-cells i many = (tt, λ u k. tt)
  visit-cells i (longer g) = (new_cell i g, old_cell i g)

-- ---- what visits leave, one after the other
-- visits whose entries are there find nothing new
idle : (succ : Step) (p : Plan) (ws : List ℕ) (o : Option (List ℕ)) (us : List Visit) → Each (Cell succ p o ws) us
    → visits succ p.shape.ceiling us o ≡ o
idle succ p ws none us e = visits-none succ p.shape.ceiling us
idle succ p ws (some cs) us e =
    visits-idle succ p.shape.ceiling cs us (each_imp (λ v w. visit-old succ p.shape.ceiling cs v (w.states.below, w.code)) e)

-- so they need not be made
pub visited-idle : {succ : Step} {p : Plan} {b : Builder} {ws : List ℕ} (us : List Visit) → b.count ≤ p.shape.ceiling + 1
    → Each (Cell succ p (listed p.shape.ceiling b) ws) us → Visited succ p us b b ws ws
visited-idle {succ} {p} {b} {ws} us h cells = record {
  more = omega arith;
  most = h;
  list = sym (idle succ p ws (listed p.shape.ceiling b) us cells);
  kept = record { low = refl; high = refl };
  keeps = λ v k. k;
  cells = cells;
  bare = λ q h. refl;
}

-- nor any where there were too many
pub visited-over : {succ : Step} {p : Plan} {b : Builder} {ws : List ℕ} (us : List Visit) → p.shape.ceiling < b.count
    → b.count ≤ p.shape.ceiling + 1 → Visited succ p us b b ws ws
visited-over {p = p} {b = b} us over h = visited-idle us h (rw (lt-leb b.count p.shape.ceiling over) (each_all (λ v. tt) us))

pub visited-next : {succ : Step} {p : Plan} {vs us : List Visit} {b r s : Builder} {ws ws₁ ws₂ : List ℕ} → Visited succ p vs b r ws ws₁
    → Visited succ p us r s ws₁ ws₂ → Visited succ p (vs ++ us) b s ws ws₂
visited-next {succ} {p} {vs} {us} {b} f g = record {
  more = omega (arith, f.more, g.more);
  most = g.most;
  list = g.list ∙ ap (visits succ p.shape.ceiling us) f.list ∙ sym (visits-append succ p.shape.ceiling vs us (listed p.shape.ceiling b));
  kept = record { low = g.kept.low ∙ f.kept.low; high = g.kept.high ∙ f.kept.high };
  keeps = λ v k. g.keeps v (f.keeps v k);
  cells = each_append (each_imp g.keeps f.cells) g.cells;
  bare = λ q h. g.bare q h ∙ f.bare q (λ l is hs t. h l is hs (tuple_up g.more t));
}

-- visits that found nothing new, and others after them that make them again
pub visited-after : {succ : Step} {p : Plan} {vs us : List Visit} {b r : Builder} {ws ws₁ ws₂ : List ℕ} → Visited succ p vs b b ws ws₁
    → Visited succ p us b r ws₁ ws₂ → Visited succ p us b r ws ws₂
visited-after f g = record {
  more = g.more;
  most = g.most;
  list = g.list;
  kept = record { low = g.kept.low ∙ f.kept.low; high = g.kept.high ∙ f.kept.high };
  keeps = λ v k. g.keeps v (f.keeps v k);
  cells = g.cells;
  bare = λ q h. g.bare q h ∙ f.bare q (λ l is hs t. h l is hs (tuple_up g.more t));
}

-- a code that counts as new is none of the codes, of which there are not too many
pub can_put : {p : Plan} {b : Builder} {ws ws' : List ℕ} {x : ℕ} {v : Visit} → Noted p b v x true ws ws' → p.shape.ceiling ≤ 64
    → ((b.count ≤ p.shape.ceiling) × (p.shape.ceiling ≤ 64)) × (b.count ≤ position x (take b.count b.codes))
can_put {p} {b} noted top = elim (dec_lt p.shape.ceiling b.count) [
  | yes y ↦ absurd (let z = (noted.passed y).0 in cc)
  | no y ↦ let few : b.count ≤ p.shape.ceiling = omega arith in ((few, top), leb-true _ _ (sym (noted.found few)))
]

-- the code x is new and is put in, or it is there
pub data PutIn (c x : ℕ) (b : Builder) : Bool → Builder → Type 0 where
  is_put : {r : Builder} → length r.codes ≡ 64 → (b.count ≤ r.count) × (r.count ≤ c + 1) × (listed c r ≡ insert c x (take b.count b.codes))
      → PutIn c x b true r
  was_there : {r : Builder} → r ≡ b → PutIn c x b false r

-- a code is looked up, its place written, and it is put in if it is new
module _ {succ : Step} {p : Plan} (b : Builder) (ws ws' : List ℕ) {v : Visit} {x : ℕ} (room : PlanRoom p (length ws)) (blind : Blind succ p)
    (hl : v.label < labels_in p.shape) (hs : v.label ≤ seen p.looks v.label) (hi : Tuple p.shape.branches b.count v.states)
    (hm : b.count ≤ p.shape.ceiling + 1) (full : length b.codes ≡ 64)
    (ex : b.count ≤ p.shape.ceiling → x ≡ succ v.label (codes_at (take b.count b.codes) v.states)) where
  abbrev cs : List ℕ
  cs = take b.count b.codes

  abbrev c : ℕ
  c = p.shape.ceiling

  abbrev spot : ℕ
  spot = p.base + place_in p.shape v.label v.states

  put_in : {new : Bool} (r : Builder) → Noted p b v x new ws ws' → b.count ≤ c → listed c r ≡ insert c x cs → b.count ≤ r.count → r.count ≤ c + 1 → Visited succ p (v ∷ []) b r ws ws'
  unfolding visit visits
  put_in r noted hc er more most =
      let n : length cs ≡ b.count = length-take-le b.count b.codes (omega (arith, room.ranged.shape.ceiling)) in
      let eo : insert c (succ v.label (codes_at cs v.states)) cs ≡ listed c r = sym (rw (ex hc) at er) in
      let hi' : Tuple p.shape.branches (length cs) v.states = tuple_up (omega arith) hi in
      let i = subst (Inserted c (succ v.label (codes_at cs v.states)) cs) eo (inserted c _ cs) in
      let z = visit-cells succ p blind ws cs v hl hs hi' (omega arith) room.share i (insert-grows i) in
      let near = place-in p.shape v.label v.states hl (tuple_up hc hi) in
      rw (noted.written hc, ex hc) (record {
        more = more;
        most = most;
        list = rw (le-leb b.count c hc, are-below (length cs) hi'.below) (sym eo);
        kept = record { low = take-set-le p.base ws spot _ (omega arith); high = drop-set-lt (p.base + share_of p.shape) ws spot _ (omega arith) };
        keeps = rw (le-leb b.count c hc) z.1;
        cells = cons z.0 nil;
        bare = λ q off. get_or-set_other ws spot q _ 0 (λ e. off v.label v.states hs (tuple_up more hi) e);
      })

  pub entered : {new : Bool} {r : Builder} → Noted p b v x new ws ws' → PutIn c x b new r → Visited succ p (v ∷ []) b r ws ws'
  entered {r = r} noted (is_put long put) = put_in r noted (can_put noted room.ranged.shape.ceiling).0.0 put.2 put.0 put.1
  entered noted (was_there old) = rw old (elim (dec_lt c b.count) [
    | yes y ↦ subst (Visited succ p (v ∷ []) b b ws) (sym (noted.passed y).1) (visited-over (v ∷ []) y hm)
    | no y ↦
        let hc : b.count ≤ c = omega arith in
        let there = leb-false _ _ (sym (noted.found hc)) in
        put_in b noted hc (put-old c x b.count b.codes full room.ranged.shape.ceiling hc there) (omega arith) hm
  ])
