-- What a run reads from, writes to and drives, at a moment.

pub record World (I O D : Type 0) : Type 0 where
  pub inputs : I
  pub sink : O
  pub device : D

abbrev pub world : {I O D : Type 0} → I → O → D → World I O D
world inputs sink device = record { inputs = inputs; sink = sink; device = device }
