use Rattle.std.proofs.Common.{◌≡◌, ◌∙◌, ap, arith, length}
use Rattle.percent_encoding.specs.Iter.{decoded_bytes}
use Rattle.percent_encoding.specs.Percent.{percent_decode}
use Rattle.percent_encoding.proofs.PercentLemmas.{length-percent_decode}
use Rattle.rr_http.proofs.answering.decode.Goals as goal

pub loop-byte-init : goal.loop-byte-init
loop-byte-init c =
    let bytes : decoded_bytes c.into_iter-byte-iterator.result ≡ percent_decode c.args.escaped.now =
    ap decoded_bytes c.into_iter-byte-iterator.ensures.into_iter_gives
    ∙ c.percent_decode-byte-items.ensures.bytes in (
      bytes,
      omega (
        arith,
        (length-percent_decode c.args.escaped.now).0,
        ap length bytes,
        c.requires,
      ),
    )
