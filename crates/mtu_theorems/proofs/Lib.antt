pub mod MtuCase
