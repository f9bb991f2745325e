-- An accepted rule's records, decoded, are what the builder asks for. Assumes nothing.
use Rattle.words.proofs.Vocabulary.{ℕ, ◌≤◌, ◌<◌, ◌-◌, suc, zero, Bool, true, false, cond, refl, List, eqb, T, length, get_or, pow_mono, arith}
use Rattle.layout.specs.Shape.{Shaped, share_at, shape_of}
use Rattle.layout.proofs.Places.{share-next}
use Rattle.logic.specs.Rule.{Record, no_record, good, Accepted}
use Rattle.logic.proofs.Rules.{good-here}
use Rattle.records.specs.Rule.{OfParts}
use Rattle.building.specs.OneRecord.{Buildable}
use Rattle.records.specs.declared.Decoded.{Decoded}
use Rattle.table.proofs.Labels.{bit_of}
use Rattle.records.specs.Decode.{bit_weight, decoded_of}
use Rattle.refinement.proofs.Upto.{lt_first, lt_both}

abbrev Before : ℕ → Decoded → Type 0
Before r x = OfParts x.kind (x.first < r) (x.second < r)

-- the parts come before the record
before : (n r op a b : ℕ) → T (good 2 n r (record { op = op; first = a; second = b })) → Before r (decoded_of n (record { op = op; first = a; second = b }))
unfolding good decoded_of
before n r zero a b t = tt
before n r (suc zero) a b t = tt
before n r (suc (suc zero)) a b t = tt
before n r (suc (suc (suc zero))) a b t = tt
before n r (suc (suc (suc (suc zero)))) a b t = tt
before n r (suc (suc (suc (suc (suc zero))))) a b t = lt_first a r (eqb b 0) t
before n r (suc (suc (suc (suc (suc (suc zero)))))) a b t = lt_both a b r r t
before n r (suc (suc (suc (suc (suc (suc (suc zero))))))) a b t = lt_both a b r r t
before n r (suc (suc (suc (suc (suc (suc (suc (suc zero)))))))) a b t = (lt_both a b n r t).1
before n r (suc (suc (suc (suc (suc (suc (suc (suc (suc zero))))))))) a b t = absurd t
before n r (suc (suc (suc (suc (suc (suc (suc (suc (suc (suc o)))))))))) a b t = absurd t

choice : (v : Bool) (a b : ℕ) → a < 128 → b < 128 → cond v b a < 128
choice true a b h k = k
choice false a b h k = h

weight-small : (n x : ℕ) → n ≤ 8 → bit_weight n x ≤ 128
weight-small n x h = let k : n - suc x ≤ 7 = omega arith in omega (arith, pow_mono k)

-- what the builder asks of record r, of m records in a workspace of len bytes
pub ready : (n c : ℕ) → Shaped (shape_of n c) → (rs : List Record) → Accepted 2 n rs → (r m len : ℕ) → r < length rs → r < m → m ≤ 128
    → share_at (shape_of n c) m ≤ len → (get_or rs r no_record).first < 128 → (get_or rs r no_record).second < 128
    → Buildable (decoded_of n (get_or rs r no_record)) r (shape_of n c) len
unfolding decoded_of
ready n c sh rs acc r m len h hm km room a b =
    let e : Record = get_or rs r no_record in
    let first = choice (eqb e.op 8) e.first e.second a b in
    record {
      fits = record {
        shape = sh;
        first_in = omega arith;
        second_in = omega arith;
        here_in = omega arith;
        wx_small = weight-small n e.first sh.variables;
        wy_small = weight-small n e.second sh.variables;
        wx_power = (n - suc e.first, refl);
        wy_power = (n - suc e.second, refl);
        bit = bit_of n (n - suc e.first) (let some = sh.some-variable in omega arith);
        before = before n r e.op e.first e.second (good-here 2 n rs r acc.1 h);
        share = omega (arith, share-next (shape_of n c) r m hm);
      };
      first-kept = first;
      second-kept = b;
    }
