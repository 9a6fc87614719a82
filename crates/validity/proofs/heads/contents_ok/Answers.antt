use Rattle.std.proofs.Math.Bool.{and_assoc}
use Rattle.validity.specs.Valid.{contents_ok}
use Rattle.validity.proofs.heads.contents_ok.Goals as goal

-- the comparison of two entries goes field by field
pub returns : goal.returns
unfolding contents_ok
returns c = simp (
  c.eq.ensures,
  c.eq-2.ensures,
  c.eq-3.ensures,
  c.entry_at.ensures,
  c.entry_at-2.ensures,
  c.entry_at-3.ensures,
  c.contracts_entry.ensures,
  c.members_entry.ensures,
  c.positions_entry.ensures,
  and_assoc,
)
