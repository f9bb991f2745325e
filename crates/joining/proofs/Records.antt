-- Building a record and then joining its states: what both promise together. Assumes nothing.
use Rattle.words.proofs.Vocabulary.{ℕ, ◌≤◌, ◌∙◌, ap, List, arith}
use Rattle.layout.specs.declared.Shape.{Shape}
use Rattle.records.specs.Machine.{share_byte}
use Rattle.records.specs.Rule.{Adds, Spared}
use Rattle.records.specs.declared.Decoded.{Decoded}
use Rattle.records.specs.declared.Summary.{Summary}
use Rattle.joining.specs.Joining.{Joins}
use Rattle.joining.specs.Record.{AddsJoined}

module _ {x : Decoded} {s : Shape} {r : ℕ} {kf kg k : Summary} {ws built : List ℕ} (a : Adds x s r kf kg k ws built) (p : Spared s r ws built) where
  pub adds_joined : k.count ≤ s.ceiling → {k' : Summary} {ws' : List ℕ} → Joins s r k k' built ws' → AddsJoined x s r kf kg k' ws ws'
  adds_joined h {k'} {ws'} j f g u =
      let w = (a f g u).few h in
      let m = w.0 in
      let v = j m w.2.stored in
      record {
        many = λ l. absurd (let e = v.stored.count in let b = v.stored.few in omega arith);
        few = λ l. (
          m,
          w.1,
          record {
            stored = v.stored;
            bytes = λ zero q hq.
                let e = v.looks in
                v.bytes q hq (w.2.bytes q hq ∙ ap (share_byte s k.looks m.count m.step q) (zero q hq))
                ∙ rw (zero q hq, e);
          },
        );
        looks = λ l. v.looks ∙ (a f g u).looks h;
      }
