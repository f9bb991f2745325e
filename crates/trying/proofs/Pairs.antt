-- Two machines joined by the builder: the joined machine of the conjunction, or more than c states are built. Assumes nothing.
use Rattle.words.proofs.Vocabulary.{ℕ, ◌≤◌, ◌<◌, ◌+◌, ◌≡◌, refl, List, none, some, length, arith}
use Rattle.layout.specs.Shape.{share_at, share_of}
use Rattle.layout.proofs.Places.{share-next}
use Rattle.logic.specs.Meaning.{Formula, conjunction, Valid}
use Rattle.logic.specs.Joined.{constructed}
use Rattle.ops.specs.declared.Op.TheVariants.{And}
use Rattle.table.proofs.Labels.{bit_of}
use Rattle.records.specs.Rule.{Mach, machine_of, Fits, SomeParts}
use Rattle.records.specs.declared.Decoded.{Decoded}
use Rattle.records.specs.declared.Summary.{Summary}
use Rattle.refinement.proofs.Records.{GoodJoined, Makes, good-few, large-many, explored, both-pair, joined}
use Rattle.joining.specs.Joining.{joined_of}
use Rattle.joining.specs.Record.{AddsJoined}
use Rattle.rule_strip.specs.RuleStrip.{variables_of, count_of}
use Rattle.rules.specs.Building.{rule_shape, MachineFor}
use Rattle.rules.proofs.Rooms.{room_shares}
use Rattle.rules.proofs.Rules.{rule-sizes, rule-shaped}
use Rattle.std.specs.Prelude.{Ok, Err}
use Rattle.trying.specs.Trying.{Triable, SomePair, Conjoins}
use Rattle.trying.specs.declared.joint.Made.{Made}

-- the "and" of the machines of numbers a and b
abbrev pub and_of : ℕ → ℕ → Decoded
and_of a b = record { kind = And; first = a; second = b; wx = 1; wy = 1 }

module _ {rule : List ℕ} {c room : ℕ} (t : Triable rule c room) where
  abbrev n : ℕ
  n = variables_of rule

  -- its share is within
  pub pair-share : (r : ℕ) → r < count_of rule + 15 → share_at (rule_shape rule c) r + share_of (rule_shape rule c) ≤ room
  pair-share r h =
      omega (arith, share-next (rule_shape rule c) r (count_of rule + 15) h, room_shares n (count_of rule + 15) c (rule-shaped t.work), t.long)

  pub pair_fits : {a b r : ℕ} → a < r → b < r → r < count_of rule + 15 → Fits (and_of a b) r (rule_shape rule c) room
  pair_fits {a} {b} {r} ha hb hr =
      let z = rule-sizes t.work in
      record {
        shape = rule-shaped t.work;
        first_in = omega arith;
        second_in = omega arith;
        here_in = omega arith;
        wx_small = omega arith;
        wy_small = omega arith;
        wx_power = (0, refl);
        wy_power = (0, refl);
        bit = bit_of n 0 z.1;
        before = (ha, hb);
        share = pair-share r hr;
      }

  pub pair_parts : {ws : List ℕ} {a b : Made} → SomePair rule c ws a b
      → SomeParts (and_of a.number b.number) (rule_shape rule c) a.machine b.machine ws
  pair_parts p = let u = p.2.readable in let v = p.3.readable in (u.machine, v.machine, (u.stored, v.stored))

  -- a machine that is read is good
  good : {ws : List ℕ} {a : ℕ} {f : Summary} {F : Formula 2} (u : MachineFor rule c ws a f F) → GoodJoined n c F u.readable.machine
  good u = record { machine = u.decides; full = u.full; few = u.readable.stored.few }

  module _ {F G : Formula 2} (vf : Valid n F) (vg : Valid n G) {f g : Mach} (p : GoodJoined n c F f) (q : GoodJoined n c G g) where
    makes : (a b : ℕ) → Makes n c (conjunction F G) (machine_of (rule_shape rule c) (and_of a b) f g)
    unfolding machine_of
    makes a b =
        let sh = rule-shaped t.work in explored n c sh (and_of a b) f g (both-pair n c sh p q vf vg 1 1)

    valid : Valid n (conjunction F G)
    unfolding Valid
    valid = (vf, vg)

    many : (a b : ℕ) → machine_of (rule_shape rule c) (and_of a b) f g ≡ none → c < (constructed n (conjunction F G)).count
    many a b e = large-many valid (rw e at (makes a b))

    few : (a b : ℕ) (m : Mach) → machine_of (rule_shape rule c) (and_of a b) f g ≡ some m
        → GoodJoined n c (conjunction F G) (joined_of (rule_shape rule c) m) × ((constructed n (conjunction F G)).count ≤ c)
    few a b m e = let w = rw e at (makes a b) in (joined n c (rule-shaped t.work) valid w, good-few valid w)

  -- what `build_joined` says of it
  module _ {ws ws' : List ℕ} {a b : Made} {r : ℕ} {k : Summary}
      (adds : AddsJoined (and_of a.number b.number) (rule_shape rule c) r a.machine b.machine k ws ws') where
    pub conjoined-over : c < k.count → Conjoins rule c ws a b ws' r (Err (record { at = b.number }))
    conjoined-over h F G vf vg u v =
        let added = adds u.readable.machine v.readable.machine (u.readable.stored, v.readable.stored) in
        (refl, many vf vg (good u) (good v) a.number b.number (added.many h))

    pub conjoined-made : length ws' ≡ room → r < count_of rule + 15 → k.count ≤ c → Conjoins rule c ws a b ws' r (Ok (record { number = r; machine = k }))
    conjoined-made e hr h F G vf vg u v =
        let z = rule-sizes t.work in
        let added = adds u.readable.machine v.readable.machine (u.readable.stored, v.readable.stored) in
        let m = added.few h in
        let w = few vf vg (good u) (good v) a.number b.number m.0 m.1 in (
          refl,
          w.1,
          record {
            readable = record {
              shape = rule-shaped t.work;
              number = omega arith;
              share = omega (arith, pair-share r hr);
              machine = joined_of (rule_shape rule c) m.0;
              stored = m.2.stored;
            };
            decides = w.0.machine;
            full = w.0.full;
          },
        )
