mod SoFar
mod Total
