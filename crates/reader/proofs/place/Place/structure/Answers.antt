use Rattle.std.proofs.Common.{ap, ◌∙◌}
use Rattle.reader.proofs.Exits.{at_exit}
use Rattle.reader.specs.Readings.{part}
use Rattle.reader.proofs.Parts.{open_part, close_part}
use Rattle.reader.proofs.Spanning.{spans_join}
use Rattle.reader.proofs.Texts.{text_stands, text_missing}
use Rattle.reader.proofs.place.Place.structure.Goals as goal
use Rattle.reader.proofs.place.Place.structure.Goals.{in-Open, in-Close}

pub returns-in_err-end-clause-missing : goal.returns-in_err-end-clause-missing
returns-in_err-end-clause-missing c =
    at_exit _ _ _ c.from_residual.ensures.1 (text_missing _ _ _ _ _ (rw c.text.ensures at c.in_err-end.ensures.missing))

pub returns-clause-reads : goal.returns-clause-reads
returns-clause-reads c =
    let h = c.in_ok-end.ensures in
    let spans = text_stands c.args.self.upload.now _ _ _ (rw c.text.ensures at h.stands) in
    let white = rw h.upload at c.past_white.ensures.skips in
    record {
      is =
          elim c.match-tag.branch [
            | in-Open w ↦ ap part w.token-is ∙ open_part _ _ _ _ _ w.in-Open.is spans
            | in-Close w ↦ ap part w.token-is ∙ close_part _ _ _ _ _ w.in-Close.is spans
          ];
      skipped = white.skipped;
      white = white.white;
      spans = spans_join _ _ _ _ _ _ spans white.spans;
      settles = white.settles;
    }
