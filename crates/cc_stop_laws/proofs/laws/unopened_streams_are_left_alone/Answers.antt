use Rattle.cc_stop_laws.proofs.Unopened.{unopened-redone}
use Rattle.cc_stop_laws.proofs.laws.unopened_streams_are_left_alone.Goals as goal

pub returns : goal.returns
returns c = λ u past s size first stream pages opening back left after good never records possible gone record_gone leaves redone.
    unopened-redone u past s good never records opening back possible gone record_gone left leaves stream size first pages after redone
