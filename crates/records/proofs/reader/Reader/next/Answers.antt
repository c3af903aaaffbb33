-- `records::reader::Reader::next` meets its contract: what a record is its twelve bytes say, and the first twelve from its place on are lent. Assumes nothing.
use mathlib.Core.Path.{◌∙◌, sym, ap}
use mathlib.Core.List.{List}
use native.Mathlib.Omega.{arith}
use Rattle.std.specs.Prelude.{ℕ}
use Rattle.records.specs.Bytes.{bytes_from, record_at}
use Rattle.records.proofs.Tables.{twelve_at}
use Rattle.records.proofs.reader.Reader.next.Goals as goal

pub returns : goal.returns
returns g c =
    let reading = g.R.Readable.reading in
    let bytes = c.args.self.bytes.now in
    let place = c.args.self.place in
    c.from_bytes.ensures
    ∙ ap (λ (l : List ℕ). reading (bytes_from l 0)) (c.in-Some.ensures.cases.0 ∙ sym (twelve_at bytes place _ (omega arith) c.requires))
    ∙ sym (g.met.R.Readable.local (record_at bytes place))
