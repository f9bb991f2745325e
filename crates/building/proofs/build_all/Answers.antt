-- `build_all` meets its contract: the marks are those of the records that are reached.
use Rattle.words.proofs.Vocabulary.{ℕ, ◌<◌, List, get_or}
use Rattle.std.proofs.lemmas.Result.{err_from_is_err_and}
use Rattle.layout.specs.declared.Shape.{Shape}
use Rattle.records.specs.Rule.{no_decoded}
use Rattle.records.specs.declared.Decoded.{Decoded}
use Rattle.building.specs.Named.{InOrder}
use Rattle.building.specs.OneRecord.{Buildable}
use Rattle.building.proofs.Marks.{used-closed}
use Rattle.building.proofs.Nexts.{made_cong}
use Rattle.building.proofs.build_all.Goals as goal

-- the records name earlier ones
in_order : (xs : List Decoded) (m : ℕ) (s : Shape) (n : ℕ) → ((r : ℕ) → r < m → Buildable (get_or xs r no_decoded) r s n)
    → (r : ℕ) → r < m → InOrder (get_or xs r no_decoded) r
in_order xs m s n w r h = let b = w r h in record { first-kept = b.first-kept; second-kept = b.second-kept; before = b.fits.before }

pub build_marked-requires-clause-m_value : goal.build_marked-requires-clause-m_value
build_marked-requires-clause-m_value c =
    let v = c.reached-marks in
    (v.ensures.end, used-closed _ _ c.requires.m_nonzero.1 (in_order _ _ _ _ c.requires.by_index) v.result v.ensures)

pub returns-in_err-build_marked-clause-made_by : goal.returns-in_err-build_marked-clause-made_by
returns-in_err-build_marked-clause-made_by c =
    let p = err_from_is_err_and c.from_residual.result c.from_residual.ensures.1 in
    rw (p.1, p.2) (made_cong _ _ _ _ _ _ _ c.reached-marks.ensures.below c.in_err-build_marked.ensures.made_by)

pub returns-clause-made_by : goal.returns-clause-made_by
returns-clause-made_by c = made_cong _ _ _ _ _ _ _ c.reached-marks.ensures.below c.in_ok-build_marked.ensures.made_by
