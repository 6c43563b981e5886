use Rattle.toml.specs.Data.{as_str}
use Rattle.mode_file.proofs.Arrays.{found_next, found_none}
use Rattle.mode_file.proofs.values.texts_among.Goals as goal
use Rattle.mode_file.proofs.values.texts_among.Goals.{in-Some+in_ok-copied+in_ok-push, in_default}

pub loop-value-preserved : goal.loop-value-preserved
loop-value-preserved c =
    elim c.match-as_str.branch [
      | in-Some+in_ok-copied+in_ok-push w ↦
          let next = found_next as_str c.args.values.now c.loop-value.value-index c.value-item.result w.in-Some.text.now c.loop-value-test.true c.value-item.is w.in-Some.ensures in
          cc (w.in_ok-push.ensures.items, w.in_ok-copied.ensures)
      | in_default w ↦
          let same = found_none as_str c.args.values.now c.loop-value.value-index c.value-item.result c.loop-value-test.true c.value-item.is w.in_default.ensures in
          cc
    ]
