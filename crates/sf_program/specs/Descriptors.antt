-- What is read from and written to.
use Rattle.sf_connection.specs.declared.waiting.StreamCounts.{StreamCounts}
use Rattle.sf_program.specs.declared.descriptors.Descriptors.{Descriptors}

abbrev pub input_of : {I O : Type 0} → Descriptors I O → I
input_of d = d.input

abbrev pub output_of : {I O : Type 0} → Descriptors I O → O
output_of d = d.output

-- its errors, and the waits that are left
abbrev pub descriptor_counts : {I O : Type 0} → Descriptors I O → StreamCounts
descriptor_counts d = d.counts
